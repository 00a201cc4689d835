-- `joining::join` meets its contract: its checks, then the plane, then the coverings. Assumes nothing.
use Rattle.refusals.proofs.After.{passed_by}
use Rattle.strips.specs.Strip.{strip_of}
use Rattle.joining.proofs.Gates.{Found, join_past, plane-room, cover-room}
use Rattle.joining.proofs.join.Goals as goal
use Rattle.joining.proofs.join.Goals.{In_ok-join_checks}

good : (c : In_ok-join_checks) → let a = c.args in
    Found (strip_of a.left_height a.left_width a.left_levels a.left_plane.now a.left_coverings.now) (strip_of a.right_height a.right_width a.right_levels a.right_plane.now a.right_coverings.now) a.plane.now a.coverings.now
good c = join_past _ _ _ _ (passed_by c.in_ok-join_checks.was c.join_checks.ensures)

pub join_planes-requires : goal.join_planes-requires
join_planes-requires c = plane-room _ _ _ _ (good (goal.at.join_planes-requires c).In_ok-join_checks)

pub join_coverings-requires : goal.join_coverings-requires
join_coverings-requires c = cover-room _ _ _ _ (good (goal.at.join_coverings-requires c).In_ok-join_checks)
