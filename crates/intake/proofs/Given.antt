-- Which bytes come, part by part, where the reader's bytes are known. Assumes nothing.
use mathlib.Core.Path.{◌≡◌, refl, sym, ap, ◌∙◌, subst, subst⁻¹}
use mathlib.Core.List.{List, [], ◌++◌, append_assoc}
use Prim.Native.Nat.{ℕ, ◌+◌, ◌<◌, ◌≤◌}
use native.Mathlib.Nat.{le_of_lt}
use native.Mathlib.Omega.{arith}
use lib.ListN.{length, take, drop}
use lib.Seq.{length-take-le, take-take, drop-append_seam}
use borrow.Rule.Slice.PartMut.{put_mid}
use Rattle.std.specs.Prelude.{Option, None, Some}
use Rattle.std.specs.Io.KnownBytes.{Keeps, Consumes}
use Rattle.std.proofs.lemmas.List.{drop-take, drop-append-le, take-append-le, take-append-drop}
use Rattle.intake.specs.declared.reading.Part.{Part}
use Rattle.intake.specs.declared.reading.Part.TheVariants as part
use Rattle.intake.specs.declared.reading.Input.TheVariants as input
use Rattle.intake.specs.Reading.{PartAt, PartRead, PartGiven, InputGiven}
use Rattle.intake.proofs.Parts.{Along}

-- what one read put behind `done` bytes
pub came_in : (done room n : ℕ) (text came : List ℕ) → done ≤ length text → n ≤ length came → drop done (take (done + n) (put_mid done room text came)) ≡ take n came
came_in done room n text came h k =
    let whole : List ℕ = put_mid done room text came in
    let behind : drop done whole ≡ came ++ drop room (drop done text) =
    subst (λ (d : ℕ). drop d whole ≡ came ++ drop room (drop done text)) (length-take-le done text h) (drop-append_seam (take done text) (came ++ drop room (drop done text))) in
    drop-take done n whole ∙ ap (take n) behind ∙ take-append-le n came (drop room (drop done text)) k

nothing_yet : (before : Option (List ℕ)) → Consumes before before []
nothing_yet None = tt
nothing_yet (Some xs) = refl

then_more : (before now after : Option (List ℕ)) (a b : List ℕ) → Consumes before now a → Consumes now after b → Consumes before after (a ++ b)
then_more None now after a b h k = tt
then_more (Some xs) None after a b h k = absurd h
then_more (Some xs) (Some ys) None a b h k = absurd k
then_more (Some xs) (Some ys) (Some zs) a b h k = h ∙ ap (λ l. a ++ l) k ∙ sym (append_assoc a b zs)

then_none : (before now after : Option (List ℕ)) (a : List ℕ) → Consumes before now a → Keeps now after → Consumes before after a
then_none None now after a h k = tt
then_none (Some xs) None after a h k = absurd h
then_none (Some xs) (Some ys) None a h k = absurd k
then_none (Some xs) (Some ys) (Some zs) a h k = h ∙ ap (λ l. a ++ l) (sym k)

-- What holds between two parts: the bytes behind the first `start` are those that the reader has lost.
pub record Came (start : ℕ) (before now : Option (List ℕ)) (text : List ℕ) (done : ℕ) : Type 0 where
  pub lost : Consumes before now (drop start (take done text))

pub none_came : (start : ℕ) (before : Option (List ℕ)) (old : List ℕ) → Came start before before old start
none_came start before old =
    let none : drop start (take start old) ≡ [] = subst (λ (n : ℕ). drop start (take n old) ≡ []) (omega arith) (drop-take start 0 old) in
    record { lost = subst⁻¹ (λ (l : List ℕ). Consumes before before l) none (nothing_yet before) }

module _ {start : ℕ} {old text new : List ℕ} {done : ℕ} (a : Along start old text done) {r : Part} (p : PartRead done text new r) where
  -- the bytes that were there, and then those that came
  joined : (n : ℕ) → done < n → n ≤ length text → drop start (take n new) ≡ drop start (take done text) ++ drop done (take n new)
  joined n h k =
      let front : take done (take n new) ≡ take done text = take-take done n new (le_of_lt h) ∙ p.stays in
      let whole : take done text ++ drop done (take n new) ≡ take n new = subst (λ (l : List ℕ). l ++ drop done (take n new) ≡ take n new) front (take-append-drop done (take n new)) in
      ap (drop start) (sym whole) ∙ drop-append-le start (take done text) (drop done (take n new)) (omega (arith, a.from, h, k, length-take-le done text))

  module _ {before now : Option (List ℕ)} (c : Came start before now text done) (after : Option (List ℕ)) (q : PartGiven done now after new r) where
    given_at : {o : Part} → r ≡ o → PartGiven done now after new o
    given_at e = subst (λ (o : Part). PartGiven done now after new o) e q

    pub came_more : {n : ℕ} → r ≡ part.To n → Came start before after new n
    came_more {n} e =
        let at : PartAt done (length text) (part.To n) = subst (λ (o : Part). PartAt done (length text) o) e p.place in
        let both : Consumes before after (drop start (take done text) ++ drop done (take n new)) = then_more before now after (drop start (take done text)) (drop done (take n new)) c.lost (given_at e) in
        record { lost = subst⁻¹ (λ (l : List ℕ). Consumes before after l) (joined n at.0 at.1) both }

    stayed : Keeps now after → Consumes before after (drop start (take done new))
    stayed k = subst⁻¹ (λ (l : List ℕ). Consumes before after (drop start l)) p.stays (then_none before now after (drop start (take done text)) c.lost k)

    pub came_all : r ≡ part.End → InputGiven start before after new (input.Ended done)
    came_all e = let h = given_at e in (stayed h.0, h.1)

    pub came_full : r ≡ part.Full → InputGiven start before after new (input.Full done)
    came_full e = stayed (given_at e)
