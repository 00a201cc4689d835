-- The entry join: its checks in order, its answer, and what it leaves in both lent slices. Assumes nothing.
use Rattle.std.specs.Prelude.{◌≡◌, not, ◌&&◌, List, ℕ, ◌+◌, eqb, ltb, ℤ}
use Rattle.refusals.specs.Refusal.{refuse_if, after_call}
use Rattle.pyramid.specs.Sides.{is_sides, is_depth}
use Rattle.strips.specs.Join.{joined_of, joined_covers}
use Rattle.strips.specs.Strip.{Strip, wide_of, is_framed, is_numbered, is_ranged}

-- Document 02, wish 8: 1 and 2, and "Each check takes the left strip, then the right, before the next check"; "15 when heights, widths or levels differ, after
-- 2; 16 when the joined width is over 512, after 15 and before 3". Behind these four checks go the others.
abbrev pub pair_refusal : ℕ → ℕ → ℕ → ℕ → ℕ → ℕ → ℕ → ℕ
pair_refusal leftHeight leftWidth leftLevels rightHeight rightWidth rightLevels rest =
    refuse_if (not (is_sides leftHeight leftWidth && is_sides rightHeight rightWidth)) 1
    (refuse_if (not (is_depth leftLevels leftHeight leftWidth && is_depth rightLevels rightHeight rightWidth)) 2
    (refuse_if (not (eqb leftHeight rightHeight && (eqb leftWidth rightWidth && eqb leftLevels rightLevels))) 15
    (refuse_if (ltb 512 (leftWidth + leftWidth)) 16
    rest)))

-- "The checks are 1, 2, 3, 5, 6"; "3 then looks at the joined slices", which are twice as wide.
abbrev pub join_refusal : Strip → Strip → List ℤ → List ℕ → ℕ
join_refusal left right plane coverings =
    pair_refusal left.height left.width left.levels right.height right.width right.levels
    (refuse_if (not (is_framed left && (is_framed right && is_framed (wide_of left plane coverings)))) 3
    (refuse_if (not (is_numbered left && is_numbered right)) 5
    (refuse_if (not (is_ranged left && is_ranged right)) 6
    0)))

-- n is the number that the call is answered with, 0 where it is accepted; a name with ' is what the slice holds after the call.
pub record Joined (left right : Strip) (plane plane' : List ℤ) (coverings coverings' : List ℕ) (n : ℕ) : Type 0 where
  pub number : n ≡ join_refusal left right plane coverings
  pub planes : plane' ≡ after_call n (joined_of left.levels left.height left.width left.plane right.plane) plane
  pub covers : coverings' ≡ after_call n (joined_covers left.levels left.height left.width left.coverings right.coverings) coverings
