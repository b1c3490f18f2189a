-- Where a node drops a packet (specs/Drops.antt): one test over the table (`drops`), and the name that a drop bears.
use mathlib.Core.Path.{◌≡◌, refl}
use mathlib.Core.Bool.{true}
use Prim.Native.Nat.{ℕ}
use Rattle.charts.specs.declared.Reading.{Reading}
use Rattle.charts.specs.declared.Report.{Report}
use Rattle.charts.specs.declared.Report.TheVariants.{Drop}
use Rattle.charts.specs.Reception.{hears}
use Rattle.charts.specs.Drops.{is_drop, DropsThere}
use Rattle.charts.proofs.Tools.{never}
use Rattle.charts.proofs.Places.{drops}
use Rattle.charts.proofs.Books.{By, silent, acks, misses, dropped, good, dcrc, broad, by}

names : {j label : ℕ} {x : Reading} (r : Report) → By j label x r → is_drop r ≡ true → r ≡ Drop j x
names r silent e = never e
names r acks e = never e
names r misses e = never e
names r dropped e = refl
names r good e = never e
names r dcrc e = never e
names r broad e = never e

pub drops_there : DropsThere hears
drops_there = record { there = drops; named = λ me label m s e. names (hears me label m s).report (by me label m s) e }
