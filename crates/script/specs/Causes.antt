-- Causes of refusals by name, with the paper's numbers. Assumes nothing.
use Rattle.std.specs.Prelude.{ℕ}
use Rattle.script.specs.declared.Refusal.{Refusal}
use Rattle.script.specs.declared.cause.Cause.{Cause}
use Rattle.script.specs.declared.cause.Cause.TheVariants.{WrongLength, WrongMark, WrongCount, BadRecord, BadNode, NotUsedOnce, TreeTooHigh, UnboundVariable, NodeAtFault, TypeNotListed, RootNotLate, WrongSettings, TooMuchFuel, StoreTooShort, OutputTooShort, CodeTooLarge, BadRow, Overlap, Gap}

abbrev pub cause_number : Cause → ℕ
cause_number WrongLength = 1
cause_number WrongMark = 2
cause_number WrongCount = 3
cause_number BadRecord = 4
cause_number BadNode = 5
cause_number NotUsedOnce = 6
cause_number TreeTooHigh = 7
cause_number UnboundVariable = 8
cause_number NodeAtFault = 9
cause_number TypeNotListed = 10
cause_number RootNotLate = 11
cause_number WrongSettings = 12
cause_number TooMuchFuel = 13
cause_number StoreTooShort = 20
cause_number OutputTooShort = 21
cause_number CodeTooLarge = 26
cause_number BadRow = 30
cause_number Overlap = 31
cause_number Gap = 32

-- the refusal of a cause at a place
abbrev pub refused_by : Cause → ℕ → Refusal
refused_by c p = record { number = cause_number c; place = p }
