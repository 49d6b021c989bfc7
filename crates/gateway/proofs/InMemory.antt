-- The layout of what C lends and is handed, as the memory model of the proofs has it: include/folderpink.h states the same
-- numbers, and the C compiler tests them.
use Rattle.std.proofs.Common.{◌≡◌, refl, ℕ, zero, suc, List, [], ◌∷◌}
use mathlib.Core.Option.{Option, some, none}
use mir.Syntax.{Ty}
use prog.Memory.{size, align, field_of}
use denote.Memory.{lone}
use denote.Struct.Declared as declared
use denote.Struct.Declared.{Declared}
use Rattle.records.specs.contracts.Stored as F
use Rattle.records.specs.contracts.Record as R
use Rattle.gateway.specs.contracts.Gateway as G
use Rattle.gateway.specs.contracts.Call as N
use Rattle.gateway.specs.contracts.Told as T

-- the type of a struct in memory
abbrev type_of : Declared → Ty
type_of d = lone (declared.row d).mir

abbrev start_of : Option (Ty × ℕ) → ℕ
start_of none = 0
start_of (some f) = f.1

-- where n fields start, from field k on
abbrev starts : Ty → ℕ → ℕ → List ℕ
starts t k zero = []
starts t k (suc n) = start_of (field_of t k) ∷ starts t (suc k) n

-- a struct's bytes, its alignment, and where its fields start
abbrev Lies : Declared → ℕ → ℕ → ℕ → List ℕ → Type 0
Lies d bytes by n at = (size (type_of d) ≡ bytes) × (align (type_of d) ≡ by) × (starts (type_of d) 0 n ≡ at)

pub stored_lies : Lies F.the_type 104 8 31
    (0 ∷ 8 ∷ 16 ∷ 20 ∷ 24 ∷ 28 ∷ 29 ∷ 30 ∷ 31 ∷ 32 ∷ 40 ∷ 48 ∷ 52 ∷ 56 ∷ 57 ∷ 58 ∷ 59 ∷ 60 ∷ 61 ∷ 62 ∷ 63 ∷ 64 ∷ 72 ∷ 80
    ∷ 88 ∷ 96 ∷ 98 ∷ 99 ∷ 100 ∷ 101 ∷ 102 ∷ [])
stored_lies = (refl, refl, refl)

pub record_lies : Lies R.the_type 360 8 4 (0 ∷ 104 ∷ 204 ∷ 304 ∷ [])
record_lies = (refl, refl, refl)

pub gateway_lies : Lies G.the_type 16 8 2 (0 ∷ 8 ∷ [])
gateway_lies = (refl, refl, refl)

pub call_lies : Lies N.the_type 40 8 6 (0 ∷ 16 ∷ 24 ∷ 32 ∷ 34 ∷ 36 ∷ [])
call_lies = (refl, refl, refl)

pub told_lies : Lies T.the_type 32 8 7 (0 ∷ 8 ∷ 16 ∷ 24 ∷ 25 ∷ 26 ∷ 27 ∷ [])
told_lies = (refl, refl, refl)
