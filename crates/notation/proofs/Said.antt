-- A line made of words says in a text what these words say. Assumes nothing.
use mathlib.Core.Path.{◌≡◌}
use mathlib.Core.List.{List}
use Prim.Native.Nat.{ℕ, ◌≤◌}
use native.Mathlib.Omega.{arith}
use borrow.Author.Tests.{le-ltb}
use lib.ListN.{length}
use Rattle.words.specs.Words.{tokens_of_words}
use Rattle.words.specs.Lines.{spaced}
use Rattle.words.proofs.Spaced.{AllGood, total, spaced_short, tokens_back}
use Rattle.notation.specs.declared.Text.{Text}
use Rattle.notation.specs.Grammar.{said_by, line_of}

pub said_line : (text : Text) (ws : List (List ℕ)) → AllGood ws → total ws ≤ 255 → line_of text (spaced ws) ≡ said_by text (tokens_of_words ws)
unfolding line_of
said_line text ws g h =
    let short = spaced_short ws in
    rw (le-ltb 255 (length (spaced ws)) (omega arith), tokens_back ws g)
