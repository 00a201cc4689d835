-- What the cutter has done with its input. Assumes nothing.
use Rattle.std.specs.Prelude.{◌≡◌, List, ◌++◌, ℕ, ◌<◌, ◌≤◌, length, take}
use Rattle.cutting.specs.Cutter.{cutter_text, Printed}
use Rattle.intake.specs.declared.Cut.{Cut}
use Rattle.intake.specs.declared.reading.Input.{Input}
use Rattle.intake.specs.declared.reading.Input.TheVariants.{Ended, Full, Broken}

-- What stands in `new`, where `text` is the buffer after reading and `old` what stood there: the answer for the bytes that were read, where the input ended
-- with them; where the buffer is full, the answer for every input that begins with these bytes; and where a read failed, nothing.
abbrev pub CutOf : List ℕ → List ℕ → List ℕ → ℕ → Input → Type 0
CutOf text old new size (Ended n) = (n < length text) × Printed (cutter_text (take n text)) old new size
CutOf text old new size (Full n) = (n ≡ length text) × ((rest : List ℕ) → Printed (cutter_text (take n text ++ rest)) old new size)
CutOf text old new size Broken = (size ≡ 0) × (new ≡ old)

pub record CutInput (text old new : List ℕ) (r : Cut) : Type 0 where
  pub cut : CutOf text old new r.size r.input
  pub within : r.size ≤ length new

-- Where all bytes of the input are known: what is printed is the answer for them, but where a read failed.
abbrev pub WholeOf : List ℕ → List ℕ → List ℕ → ℕ → Input → Type 0
WholeOf all old new size (Ended n) = Printed (cutter_text all) old new size
WholeOf all old new size (Full n) = Printed (cutter_text all) old new size
WholeOf all old new size Broken = Unit {0}

abbrev pub CutWhole : List ℕ → List ℕ → List ℕ → Cut → Type 0
CutWhole all old new r = WholeOf all old new r.size r.input
