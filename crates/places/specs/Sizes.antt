-- The checks 1 and 2, in front of what else a list of checks has. Assumes nothing.
use Rattle.std.specs.Prelude.{not, ℕ}
use Rattle.refusals.specs.Refusal.{refuse_if}
use Rattle.pyramid.specs.Sides.{is_sides, is_depth}

-- Document 01, "Order: decompose 1 2 3 4; restore 1 2 3 5 6; keep 1 2 3 6 7; ..": each list of a picture or a plane begins 1 2, read's behind its 9;
-- rest is what the further checks give. Document 02, wish 2: 1 looks "at both numbers", 2 at the smaller.
abbrev pub size_refusal : ℕ → ℕ → ℕ → ℕ → ℕ
size_refusal height width levels rest =
    refuse_if (not (is_sides height width)) 1
    (refuse_if (not (is_depth levels height width)) 2
    rest)
