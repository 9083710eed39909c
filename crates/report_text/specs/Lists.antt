-- Lists by their places.
use Rattle.std.specs.Prelude.{ℕ, zero, suc, cond, List, [], ◌∷◌, ◌++◌, Option, None, Some, slice_get}
use Rattle.definition.specs.declared.TruingUncertaintyWarningCodeV1.{TruingUncertaintyWarningCodeV1}
use Rattle.warnings.specs.Warnings.{stands_in}
use Rattle.warnings.specs.declared.Warnings.{Warnings}
use Rattle.warnings.specs.declared.TheConstants.{CODES}
use Rattle.report_text.specs.Writing.{Text}

-- what stands at one place, as a list
abbrev pub one_of : {A : Type 0} → Option A → List A
one_of None = []
one_of (Some a) = a ∷ []

-- what stands at the first n places
abbrev pub present : {A : Type 0} → ℕ → (ℕ → Option A) → List A
present zero at = []
present (suc n) at = present n at ++ one_of (at n)

-- texts one after another, each but the first after what is between two
abbrev pub after_each : Text → List Text → Text
after_each between [] = []
after_each between (t ∷ ts) = between ++ (t ++ after_each between ts)

abbrev pub separated : Text → List Text → Text
separated between [] = []
separated between (t ∷ ts) = t ++ after_each between ts

-- the text of the i-th code, where its warning stands
abbrev pub if_stands : (TruingUncertaintyWarningCodeV1 → Text) → Warnings → Option TruingUncertaintyWarningCodeV1 → Option Text
if_stands text w None = None
if_stands text w (Some code) = cond (stands_in w code) (Some (text code)) None

abbrev pub warning_at : (TruingUncertaintyWarningCodeV1 → Text) → Warnings → ℕ → Option Text
warning_at text w i = if_stands text w (slice_get CODES i)
