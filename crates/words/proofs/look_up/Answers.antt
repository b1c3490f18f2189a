use Rattle.std.proofs.Common.{rules, ◌∙◌}
use borrow.Author.Tests.{tests}
use Rattle.std.specs.Str.{bytes_eq}
use Rattle.std.proofs.lemmas.Iterator.{YieldsList-from_slice}
use Rattle.std.proofs.lemmas.Iterator.Search.{find_from_yields_List}
use Rattle.words.proofs.Names.{found}
use Rattle.words.proofs.look_up.Goals as goal

pub returns : goal.returns
returns c =
    let e = found c.args.w.now c.args.names.now _ (find_from_yields_List (λ x. bytes_eq c.args.w.now x.0.now) _ _ _ c.find.ensures.ran (YieldsList-from_slice c.args.names.now cc) (λ x b q k. search (rules, tests))) in
    rw c.in_ok-name.was at e

pub returns-in_err-name : goal.returns-in_err-name
returns-in_err-name c =
    let e = found c.args.w.now c.args.names.now _ (find_from_yields_List (λ x. bytes_eq c.args.w.now x.0.now) _ _ _ c.find.ensures.ran (YieldsList-from_slice c.args.names.now cc) (λ x b q k. search (rules, tests))) in
    c.from_residual.ensures ∙ rw c.in_err-name.was at e
