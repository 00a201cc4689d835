-- Refusals and answers by the numbers of document 01, "Turned-back work". Assumes nothing.
use Rattle.std.specs.Prelude.{Bool, true, false, ℕ, zero, suc, Result, Ok, Err}
use Rattle.refusals.specs.declared.Refusal.{Refusal}
use Rattle.refusals.specs.declared.Refusal.TheVariants.{Side, Depth, Frame, Sample, Covering, Coefficient, Quota, Threshold, Text, Buffer, Sequence, Bench, Tolerance, Listing, Mismatch, JoinedWidth, Window, Unlisted, Step, Master, Steps}

-- The table's number of a refusal.
abbrev pub number_of : Refusal → ℕ
number_of Side = 1
number_of Depth = 2
number_of Frame = 3
number_of Sample = 4
number_of Covering = 5
number_of Coefficient = 6
number_of Quota = 7
number_of Threshold = 8
number_of Text = 9
number_of Buffer = 10
number_of Sequence = 11
number_of Bench = 12
number_of Tolerance = 13
number_of Listing = 14
number_of Mismatch = 15
number_of JoinedWidth = 16
number_of Window = 17
number_of Unlisted = 18
number_of Step = 19
number_of Master = 20
number_of Steps = 21

-- The number of an answer: 0 where the call is accepted, whatever it gives.
abbrev pub answer_of : {A : Type 0} → Result A Refusal → ℕ
answer_of (Ok a) = 0
answer_of (Err r) = number_of r

-- The count of an answer that gives one, 0 where the call is refused.
abbrev pub count_of : Result ℕ Refusal → ℕ
count_of (Ok n) = n
count_of (Err r) = 0

-- Whether an answer shows a block: 1 where the slice holds it, 0 where there is none and where the call is refused.
abbrev pub flag_of : Result Bool Refusal → ℕ
flag_of (Ok true) = 1
flag_of (Ok false) = 0
flag_of (Err r) = 0

-- One check of a call: the refusal's number where its condition holds, and else what the further checks give. 0 is acceptance.
abbrev pub refuse_if : Bool → ℕ → ℕ → ℕ
refuse_if true n rest = n
refuse_if false n rest = rest

-- What a lent slice, or a value, is after a call with the number n: "Each refusal gives its number and changes no lent slice."
abbrev pub after_call : {A : Type 0} → ℕ → A → A → A
after_call zero new old = new
after_call (suc n) new old = old
