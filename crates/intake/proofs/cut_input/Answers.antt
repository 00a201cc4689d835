-- `intake::cut_input` meets its contract. Assumes nothing.
use native.Mathlib.Nat.{le_of_lt, le_of_eq}
use native.Mathlib.Omega.{arith}
use borrow.Author.Rules.{rules}
use Rattle.cutting.proofs.Prints.{within}
use Rattle.intake.proofs.Whole.{ended_in, full_in, cut_full, cut_broken, ended_whole, full_whole, broken_whole}
use Rattle.intake.proofs.cut_input.Goals as goal

pub cut_first-requires : goal.cut_first-requires
cut_first-requires g c = le_of_lt (ended_in c.read_input-input.ensures.input c.in-Ended.is)

pub cut_first-requires-in-Full : goal.cut_first-requires-in-Full
cut_first-requires-in-Full g c = le_of_eq (full_in c.read_input-input.ensures.input c.in-Full.is)

pub returns-in-Ended-clause-cut : goal.returns-in-Ended-clause-cut
returns-in-Ended-clause-cut g c = record { cut = (ended_in c.read_input-input.ensures.input c.in-Ended.is, c.cut_first.ensures); within = within c.cut_first.ensures }

pub returns-in-Ended-clause-whole : goal.returns-in-Ended-clause-whole
returns-in-Ended-clause-whole g c = ended_whole _ _ _ _ _ _ _ c.in-Ended.ensures.given c.cut_first.ensures

pub returns-in-Full-clause-cut : goal.returns-in-Full-clause-cut
returns-in-Full-clause-cut g c =
    let r = c.read_input-input.ensures.input in
    record { cut = cut_full r (omega (arith, r.size)) c.in-Full.is c.cut_first-in-Full.ensures; within = within c.cut_first-in-Full.ensures }

pub returns-in-Full-clause-whole : goal.returns-in-Full-clause-whole
returns-in-Full-clause-whole g c =
    let r = c.read_input-input.ensures.input in
    full_whole _ _ _ _ _ _ _ c.in-Full.ensures.given (cut_full r (omega (arith, r.size)) c.in-Full.is c.cut_first-in-Full.ensures)

pub returns-in-Broken-clause-cut : goal.returns-in-Broken-clause-cut
returns-in-Broken-clause-cut g c = record { cut = cut_broken _ _ c.in-Broken.is; within = search rules }

pub returns-in-Broken-clause-whole : goal.returns-in-Broken-clause-whole
returns-in-Broken-clause-whole g c = broken_whole _ _ _ c.in-Broken.is
