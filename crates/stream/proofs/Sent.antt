-- What reaches a writer, or comes from a reader, by way of a buffer. Assumes nothing.
use Rattle.std.proofs.Common.{◌≡◌, sym, subst, arith, rules, ◌∙◌, ℕ, ◌+◌, ◌≤◌, List, ◌++◌, length, take, drop, Option, Some, None, append_assoc, length-append, length-take-le, take_all}
use Rattle.std.proofs.Math.Seq.{take-append-add}
use Rattle.std.proofs.lemmas.List.{take-append-le}
use Rattle.std.proofs.lemmas.List.Edits.{sets, sets-eq}
use Rattle.std.specs.Io.KnownBytes.{Appends, Consumes}
use Rattle.stream.specs.Collected.{sent}

-- the bytes up to the end of a text that is put into a buffer
before : (out text : List ℕ) (at n : ℕ) → n ≡ at + length text → n ≤ length out → take n (sets out at text) ≡ take at out ++ text
before out text at n is fits =
    let room : at + length text ≤ length out = omega arith in
    let held = length-take-le at out (omega arith) in
    let size : length (take at out ++ text) ≡ n = rw (length-append, held) (sym is) in
    rw (sets-eq text out at room) (take-append-le n (take at out ++ text) (drop (at + length text) out) (omega (arith, size)) ∙ take_all n (take at out ++ text) (omega (arith, size)))

-- a text is put after the bytes held
pub held_on : (known : Option (List ℕ)) (out text : List ℕ) (at : ℕ) → at + length text ≤ length out
    → Appends (sent known out (Some at)) (sent known (sets out at text) (Some (at + length text))) text
held_on None out text at fits = search rules
held_on (Some xs) out text at fits =
    let is : at + length text ≡ at + length text = omega arith in
    rw (before out text at (at + length text) is fits) (sym (append_assoc xs (take at out) text))

-- the bytes held are written, and a text is put in their place
pub put_on : (old new : Option (List ℕ)) (out text : List ℕ) (at : ℕ) → Appends old new (take at out) → length text ≤ length out
    → Appends (sent old out (Some at)) (sent new (sets out 0 text) (Some (length text))) text
put_on None new out text at wrote fits = search rules
put_on (Some xs) None out text at wrote fits = elim wrote [ ]
put_on (Some xs) (Some ys) out text at wrote fits =
    let is : length text ≡ 0 + length text = omega arith in
    rw (before out text 0 (length text) is fits, wrote)

-- some bytes are read, and then some more into the part after them
pub read_on : (old mid new : Option (List ℕ)) (buf part rest : List ℕ) (done more : ℕ) → Consumes old mid (take done buf) → Consumes mid new (take more part)
    → done ≤ length buf → more ≤ length part → Consumes old new (take (done + more) (take done buf ++ (part ++ rest)))
read_on None mid new buf part rest done more first then in_buf in_part = search rules
read_on (Some xs) None new buf part rest done more first then in_buf in_part = elim first [ ]
read_on (Some xs) (Some ys) None buf part rest done more first then in_buf in_part = elim then [ ]
read_on (Some xs) (Some ys) (Some zs) buf part rest done more first then in_buf in_part =
    let whole = subst (λ n. take (n + more) (take done buf ++ (part ++ rest)) ≡ take done buf ++ take more (part ++ rest)) (length-take-le done buf in_buf) (take-append-add (take done buf) (part ++ rest) more) in
    rw (first, then, whole, take-append-le more part rest in_part) (sym (append_assoc (take done buf) (take more part) zs))
