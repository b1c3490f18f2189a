use mathlib.Core.Path.{◌≡◌}
use Prim.Native.Nat.{◌/◌, ◌%◌}
use Rattle.charts.proofs.Sequences.{entry_lt}
use Rattle.counting.specs.Rows.{place_at}
use Rattle.counting.proofs.Cells.{leads_to}
use Rattle.counting.proofs.place_at.Goals as goal

pub returns : goal.returns
returns c = let led : c.place_in.result ≡ place_at c.args.i = rw (c.requires.table_value, leads_to c.args.i c.requires.i_bound) at c.place_in.ensures in
    record { upper_bound = rw led (entry_lt (c.args.i / 14) (c.args.i % 14)); value = led }
