-- What is known of a buffer into which input is read, and of the bytes that come, where the reader's are known. Assumes nothing.
use Rattle.std.specs.Prelude.{◌≡◌, List, ℕ, ◌<◌, ◌≤◌, max, length, take, drop, Option}
use Rattle.std.specs.Io.KnownBytes.{Keeps, Consumes, IsAtEnd}
use Rattle.intake.specs.declared.reading.Part.{Part}
use Rattle.intake.specs.declared.reading.Part.TheVariants as part
use Rattle.intake.specs.declared.reading.Input.{Input}
use Rattle.intake.specs.declared.reading.Input.TheVariants as input

-- Where one read behind `done` bytes of a buffer of `room` bytes leads: at least one byte further and not past the buffer; or the input has ended, and there
-- was room to see it; or there is no room.
abbrev pub PartAt : ℕ → ℕ → Part → Type 0
PartAt done room (part.To n) = (done < n) × (n ≤ room)
PartAt done room part.End = done < room
PartAt done room part.Full = room ≤ done
PartAt done room part.Broken = Unit {0}

pub record PartRead (done : ℕ) (old new : List ℕ) (r : Part) : Type 0 where
  pub size : length new ≡ length old
  pub stays : take done new ≡ take done old
  pub place : PartAt done (length old) r

-- What the reader has lost, where its bytes are known before and after: the bytes that came behind the first `done`; the input has ended only where it has
-- none left.
abbrev pub PartGiven : ℕ → Option (List ℕ) → Option (List ℕ) → List ℕ → Part → Type 0
PartGiven done before after text (part.To n) = Consumes before after (drop done (take n text))
PartGiven done before after text part.End = Keeps before after × IsAtEnd after
PartGiven done before after text part.Full = Keeps before after
PartGiven done before after text part.Broken = Keeps before after

-- Where reading behind `start` bytes stops: the input has ended, and there was room to see it; or every byte of the buffer is taken.
abbrev pub InputAt : ℕ → ℕ → Input → Type 0
InputAt start room (input.Ended n) = (start ≤ n) × (n < room)
InputAt start room (input.Full n) = n ≡ max start room
InputAt start room input.Broken = Unit {0}

pub record InputRead (start : ℕ) (old new : List ℕ) (r : Input) : Type 0 where
  pub size : length new ≡ length old
  pub stays : take start new ≡ take start old
  pub place : InputAt start (length old) r

-- The same for all that came behind the first `start` bytes. Where a read failed, nothing is said of the bytes that came before it.
abbrev pub InputGiven : ℕ → Option (List ℕ) → Option (List ℕ) → List ℕ → Input → Type 0
InputGiven start before after text (input.Ended n) = Consumes before after (drop start (take n text)) × IsAtEnd after
InputGiven start before after text (input.Full n) = Consumes before after (drop start (take n text))
InputGiven start before after text input.Broken = Unit {0}
