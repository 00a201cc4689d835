-- Reading part by part, over bare values. Assumes nothing.
use mathlib.Core.Path.{◌≡◌, refl, sym, ap, ◌∙◌, subst}
use mathlib.Core.List.{List, ◌++◌}
use Prim.Native.Nat.{ℕ, ◌-◌, ◌<◌, ◌≤◌, max}
use native.Mathlib.Omega.{arith}
use lib.ListN.{length, take}
use lib.Seq.{length-take-le, take_at, take-take}
use Rattle.intake.specs.declared.reading.Part.{Part}
use Rattle.intake.specs.declared.reading.Part.TheVariants as part
use Rattle.intake.specs.declared.reading.Input.TheVariants as input
use Rattle.intake.specs.Reading.{PartAt, PartRead, InputRead}

-- a list that begins with the front of another
pub front_stays : (n : ℕ) (xs ys : List ℕ) → n ≤ length xs → take n (take n xs ++ ys) ≡ take n xs
front_stays n xs ys h = take_at (take n xs) ys n (length-take-le n xs h)

-- What holds between two parts: `done` bytes are there, the first `start` of them those of `old`.
pub record Along (start : ℕ) (old text : List ℕ) (done : ℕ) : Type 0 where
  pub size : length text ≡ length old
  pub stays : take start text ≡ take start old
  pub from : start ≤ done
  pub upto : done ≤ max start (length old)

pub begins : (start : ℕ) (old : List ℕ) → Along start old old start
begins start old = record { size = refl; stays = refl; from = omega arith; upto = omega arith }

module _ {start : ℕ} {old text new : List ℕ} {done : ℕ} (a : Along start old text done) {r : Part} (p : PartRead done text new r) where
  shorter : take start new ≡ take start text
  shorter = sym (take-take start done new a.from) ∙ ap (take start) p.stays ∙ take-take start done text a.from

  still : take start new ≡ take start old
  still = shorter ∙ a.stays

  at : {o : Part} → r ≡ o → PartAt done (length text) o
  at e = subst (λ (o : Part). PartAt done (length text) o) e p.place

  pub further : {n : ℕ} → r ≡ part.To n → Along start old new n
  further {n} e =
      let h = at e in
      record { size = p.size ∙ a.size; stays = still; from = omega (arith, h.0, a.from); upto = omega (arith, h.1, a.size) }

  pub falls : {n : ℕ} → r ≡ part.To n → length old - n < length old - done
  falls {n} e = let h = at e in omega (arith, h.0, h.1, a.size)

  pub ends : r ≡ part.End → InputRead start old new (input.Ended done)
  ends e = let h = at e in record { size = p.size ∙ a.size; stays = still; place = (a.from, omega (arith, h, a.size)) }

  pub fills : r ≡ part.Full → InputRead start old new (input.Full done)
  fills e = let h = at e in record { size = p.size ∙ a.size; stays = still; place = omega (arith, h, a.size, a.from, a.upto) }

  pub breaks : InputRead start old new input.Broken
  breaks = record { size = p.size ∙ a.size; stays = still; place = tt }
