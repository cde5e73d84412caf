-- Why a call from C is not done, and the number by which it is told. Assumes nothing.
use Rattle.std.specs.Prelude.{ℕ, Some, None, Ok, Err, Option, Result}
use Rattle.surface.specs.declared.refusals.Refusal.{Refusal}
use Rattle.surface.specs.Refusals.{number_of}
use Rattle.outline_c.specs.declared.faults.Fault.{Fault}
use Rattle.outline_c.specs.declared.faults.Fault.TheVariants.{Unknown, Refused}

abbrev pub code_of : Fault → ℕ
code_of Unknown = 10
code_of (Refused e) = number_of e

abbrev pub fault_of : Option Refusal → Option Fault
fault_of None = None
fault_of (Some e) = Some (Refused e)

-- a refusal is a fault
abbrev pub faulted : {A : Type 0} → Result A Refusal → Result A Fault
faulted (Ok answer) = Ok answer
faulted (Err e) = Err (Refused e)

-- the fault, where there is one
abbrev pub unless_fault : {A : Type 0} → Option Fault → Result A Fault → Result A Fault
unless_fault None answer = answer
unless_fault (Some fault) answer = Err fault

-- the first of two faults, if there is one
abbrev pub first_fault : Option Fault → Option Fault → Option Fault
first_fault None later = later
first_fault (Some fault) later = Some fault

-- 0 where a call answers, else the number of its fault
abbrev pub told_code : {A : Type 0} → Result A Fault → ℕ
told_code (Ok answer) = 0
told_code (Err fault) = code_of fault

-- the answer, or what stood there before
abbrev pub written : {A E : Type 0} → A → Result A E → A
written before (Ok answer) = answer
written before (Err e) = before
