-- The scope's refusals by their numbers.
use Rattle.std.specs.Prelude.{ℕ}
use Rattle.definition.specs.declared.RefusalCode.{RefusalCode}
use Rattle.definition.specs.declared.RefusalCode.TheVariants as Code

abbrev pub number_of : RefusalCode → ℕ
number_of Code.FaultyPoint = 1
number_of Code.TooFewObservations = 2
number_of Code.TooManyObservations = 3
number_of Code.FaultyObservation = 4
number_of Code.FaultyPrior = 5
number_of Code.TooManyDistances = 6
number_of Code.FaultyDistance = 7
number_of Code.NoQuestionOpen = 8
number_of Code.WrongEntryCount = 9
number_of Code.PointRefused = 10
number_of Code.ObservationMissing = 11
number_of Code.ObjectiveNotFinite = 12
number_of Code.DistanceMissing = 13
number_of Code.NoFinishedReport = 14
number_of Code.NoSuchPlace = 15
