use mathlib.Core.Path.{◌≡◌}
use Rattle.calibration.specs.Card.{shows, first, chosen_steps}
use Rattle.calibration.proofs.Turns.{left0, left1, left2, left3}
use Rattle.calibration.proofs.search.first_choice.Given as goal

abbrev pub invariant-loop-third : goal.invariant-loop-third
invariant-loop-third l = first (shows l.covering) (left3 l.steps l.zeroth-index l.zeroth l.first-index l.first l.second-index l.second l.third-index) ≡ chosen_steps l.covering l.steps

abbrev pub invariant-loop-second : goal.invariant-loop-second
invariant-loop-second l = first (shows l.covering) (left2 l.steps l.zeroth-index l.zeroth l.first-index l.first l.second-index) ≡ chosen_steps l.covering l.steps

abbrev pub invariant-loop-first : goal.invariant-loop-first
invariant-loop-first l = first (shows l.covering) (left1 l.steps l.zeroth-index l.zeroth l.first-index) ≡ chosen_steps l.covering l.steps

abbrev pub invariant-loop-zeroth : goal.invariant-loop-zeroth
invariant-loop-zeroth l = first (shows l.covering) (left0 l.steps l.zeroth-index) ≡ chosen_steps l.covering l.steps
