-- The fixed words of the line protocol, those that are read and those that are written, as one table. The code's words are its places.
use Rattle.std.specs.Prelude.{ℕ, suc, Bool, true, false, ◌&&◌, cond, List, [], ◌∷◌, map, eqb, length, get_or, slice_get, Option, None, Some}
use Prim.Native.Char.{code}
use Prim.Native.String.{String}
use Prim.Native.String as string
use Rattle.words.specs.declared.Word.{Word}
use Rattle.words.specs.declared.Word.TheVariants as word
use Rattle.words.specs.declared.TheConstants.{ALL}

-- the bytes of a quoted word, whose characters are ASCII
abbrev pub bytes : String → List ℕ
bytes string.[] = []
bytes (string.◌∷◌ c s) = code c ∷ bytes s

-- two lists of bytes are the same
abbrev pub same : List ℕ → List ℕ → Bool
same [] [] = true
same [] (d ∷ t) = false
same (c ∷ s) [] = false
same (c ∷ s) (d ∷ t) = eqb c d && same s t

-- the word is this one
abbrev pub is : String → List ℕ → Bool
is w s = same s (bytes w)

-- the table: distinct words of at most 32 bytes
abbrev pub names : List String
names =
    "entered" ∷ "shot" ∷ "prior" ∷ "distance" ∷ "open" ∷
    "drops" ∷ "refused" ∷ "put-in" ∷ "take-out" ∷ "exchange" ∷ "asked" ∷
    "speed" ∷ "coefficient" ∷ "plain" ∷ "missing" ∷ "none" ∷
    "yes" ∷ "no" ∷
    "ScaledGradient" ∷ "ObjectiveMesh" ∷
    "OptimizerDidNotConverge" ∷
    "ObjectiveMeshConvergence" ∷
    "WeakBcSensitivity" ∷
    "IllConditionedData" ∷
    "MvPriorDominated" ∷
    "BcPriorDominated" ∷
    "GaussianApproximationUnavailable" ∷
    "IntervalCrossesFitBounds" ∷
    "LowEffectiveDegreesOfFreedom" ∷
    "PredictionOutsideObservedDomain" ∷
    "MapAtParameterBound" ∷
    "RankDeficientInformation" ∷
    "NonFiniteInformation" ∷
    "Available" ∷ "Unavailable" ∷
    "report" ∷
    "question" ∷ "shots" ∷ "distances" ∷ "new" ∷
    "declined" ∷ "malformed" ∷ "page" ∷ []

abbrev pub words : List (List ℕ)
words = map bytes names

-- the word at a place, of no bytes past the end
unfoldable pub word_at : ℕ → List ℕ
word_at k = get_or words k []

-- the first place in a list where s stands, the list's length where it does not
abbrev pub first_in : List (List ℕ) → List ℕ → ℕ
first_in [] s = 0
first_in (w ∷ ws) s = cond (same s w) 0 (suc (first_in ws s))

-- the place of the word that s is, the number of words where it is none
unfoldable pub place_of : List ℕ → ℕ
place_of s = first_in words s

-- the place of a quoted word
abbrev pub place : String → ℕ
place w = first_in words (bytes w)

-- the place of a word of the code
abbrev pub place_in : Word → ℕ
place_in word.Entered = 0
place_in word.Shot = 1
place_in word.Prior = 2
place_in word.Distance = 3
place_in word.Open = 4
place_in word.Drops = 5
place_in word.Refused = 6
place_in word.PutIn = 7
place_in word.TakeOut = 8
place_in word.Exchange = 9
place_in word.Asked = 10
place_in word.Speed = 11
place_in word.Coefficient = 12
place_in word.Plain = 13
place_in word.Missing = 14
place_in word.None = 15
place_in word.Yes = 16
place_in word.No = 17
place_in word.ScaledGradient = 18
place_in word.ObjectiveMesh = 19
place_in word.OptimizerDidNotConverge = 20
place_in word.ObjectiveMeshConvergence = 21
place_in word.WeakBcSensitivity = 22
place_in word.IllConditionedData = 23
place_in word.MvPriorDominated = 24
place_in word.BcPriorDominated = 25
place_in word.GaussianApproximationUnavailable = 26
place_in word.IntervalCrossesFitBounds = 27
place_in word.LowEffectiveDegreesOfFreedom = 28
place_in word.PredictionOutsideObservedDomain = 29
place_in word.MapAtParameterBound = 30
place_in word.RankDeficientInformation = 31
place_in word.NonFiniteInformation = 32
place_in word.Available = 33
place_in word.Unavailable = 34
place_in word.Report = 35
place_in word.Question = 36
place_in word.Shots = 37
place_in word.Distances = 38
place_in word.New = 39
place_in word.Declined = 40
place_in word.Malformed = 41
place_in word.Page = 42

-- the number of words where there is none
abbrev pub place_by : Option Word → ℕ
place_by None = length words
place_by (Some w) = place_in w

-- the word that s is, none where it is none of them
unfoldable pub found : List ℕ → Option Word
found s = slice_get ALL (place_of s)
