use native.Mathlib.Omega.{arith}
use Rattle.transcript.proofs.text.put_name.Goals as goal

pub returns-in-Opened : goal.returns-in-Opened
returns-in-Opened c = record { upper_bound = omega arith; puts = rw c.in-Opened.is c.put_word.ensures }

pub returns-in-Addressed : goal.returns-in-Addressed
returns-in-Addressed c = record { upper_bound = omega arith; puts = rw c.in-Addressed.is c.put_word-in-Addressed.ensures }

pub returns-in-HeadOwn : goal.returns-in-HeadOwn
returns-in-HeadOwn c = record { upper_bound = omega arith; puts = rw c.in-HeadOwn.is c.put_word-in-HeadOwn.ensures }

pub returns-in-HeadAll : goal.returns-in-HeadAll
returns-in-HeadAll c = record { upper_bound = omega arith; puts = rw c.in-HeadAll.is c.put_word-in-HeadAll.ensures }

pub returns-in-BodyOwn : goal.returns-in-BodyOwn
returns-in-BodyOwn c = record { upper_bound = omega arith; puts = rw c.in-BodyOwn.is c.put_word-in-BodyOwn.ensures }

pub returns-in-BodyAll : goal.returns-in-BodyAll
returns-in-BodyAll c = record { upper_bound = omega arith; puts = rw c.in-BodyAll.is c.put_word-in-BodyAll.ensures }

pub returns-in-TailOwn : goal.returns-in-TailOwn
returns-in-TailOwn c = record { upper_bound = omega arith; puts = rw c.in-TailOwn.is c.put_word-in-TailOwn.ensures }

pub returns-in-TailAll : goal.returns-in-TailAll
returns-in-TailAll c = record { upper_bound = omega arith; puts = rw c.in-TailAll.is c.put_word-in-TailAll.ensures }
