-- `listing::decompose_listed` meets its contract: its checks, then the work. Assumes nothing.
use mathlib.Core.Path.{◌≡◌}
use Rattle.refusals.proofs.After.{passed_by}
use Rattle.pyramid.proofs.Sides.{sides_are}
use Rattle.coder.proofs.Gates.{truth, small_samples}
use Rattle.listing.specs.Entries.{listed_refusal}
use Rattle.listing.proofs.Together.{refuses_listed, listed_past}
use Rattle.listing.proofs.decompose_listed.Goals as goal

pub decompose_all-requires : goal.decompose_all-requires
decompose_all-requires c =
    let accepted : (let a = c.args in 0 ≡ listed_refusal a.height a.width a.levels a.tolerance a.samples.now a.list.now a.plane.now a.coverings.now a.scratch.now) = passed_by c.in_ok-listed_checks.was c.listed_checks.ensures in
    let a = c.args in
    let y = listed_past a.height a.width a.levels a.tolerance a.samples.now a.list.now a.plane.now a.coverings.now a.scratch.now accepted in
    let z = y.0 in
    let s = sides_are a.height a.width (truth z.sided) in
    record { t = (s.0, s.1, truth z.deep); samples_len = (z.long, z.plane_long, z.covered, z.scratch_long); by_index = (small_samples a.samples.now z.small z.long, y.1, y.2) }

pub returns : goal.returns
returns c =
    let accepted : (let a = c.args in 0 ≡ listed_refusal a.height a.width a.levels a.tolerance a.samples.now a.list.now a.plane.now a.coverings.now a.scratch.now) = passed_by c.in_ok-listed_checks.was c.listed_checks.ensures in
    let e = c.decompose_all.ensures in record { number = accepted; planes = e.0; covers = e.1; zeros = e.2 }
