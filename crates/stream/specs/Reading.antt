-- What a read that fills a buffer answers.
use Rattle.std.specs.Prelude.{Result, Ok, Err, ℕ}
use Rattle.stream.specs.declared.ReadError.{ReadError}

-- how many bytes were read, also where a read then failed
abbrev pub count_read : Result ℕ ReadError → ℕ
count_read (Ok count) = count
count_read (Err failed) = failed.count
