-- Faults of the code, without where they lie in memory.
use Rattle.std.specs.Prelude.{◌≡◌, ℕ, List, [], ◌∷◌, Result, Ok, Err, ⊤}
use Rattle.ci_config.specs.Fault.{Fault, K1, K2, K3, K4, K5, K6, K7, K8, K9, K10, K11, K12, K13, K14, K15, K16, Placed}
use Rattle.ci_config.specs.Reading.{fails, fails_at}
use Rattle.ci_config.specs.declared.fault.ConfigCode.{ConfigCode}
use Rattle.ci_config.specs.declared.fault.ConfigFault.{ConfigFault}
use Rattle.ci_config.specs.declared.fault.Way.{Way}
use Rattle.ci_config.specs.declared.fault.ReadFault.{ReadFault}
use Rattle.ci_config.specs.declared.fault.ReadFault.TheVariants.{Memory, Here, Inside}

abbrev pub code_view : ConfigCode → Fault
code_view ConfigCode.K1 = K1
code_view (ConfigCode.K2 name) = K2 name.now
code_view ConfigCode.K3 = K3
code_view ConfigCode.K4 = K4
code_view ConfigCode.K5 = K5
code_view ConfigCode.K6 = K6
code_view ConfigCode.K7 = K7
code_view ConfigCode.K8 = K8
code_view ConfigCode.K9 = K9
code_view ConfigCode.K10 = K10
code_view ConfigCode.K11 = K11
code_view ConfigCode.K12 = K12
code_view (ConfigCode.K13 x) = K13 x
code_view ConfigCode.K14 = K14
code_view ConfigCode.K15 = K15
code_view ConfigCode.K16 = K16

-- What a call answers is what is read, unless memory ran out.
abbrev pub Gives : {X Y : Type 0} → (X → Y) → Result X ConfigFault → Result Y Fault → Type 0
Gives view (Ok x) read = read ≡ Ok (view x)
Gives view (Err ConfigFault.Memory) read = ⊤
Gives view (Err (ConfigFault.Fault f)) read = read ≡ Err (code_view f)

abbrev pub way_view : Way → List ℕ
way_view (Way.One a) = a ∷ []
way_view (Way.Two a b) = a ∷ b ∷ []
way_view (Way.Three a b c) = a ∷ b ∷ c ∷ []
way_view (Way.Four a b c d) = a ∷ b ∷ c ∷ d ∷ []
way_view (Way.Five a b c d e) = a ∷ b ∷ c ∷ d ∷ e ∷ []

-- The same, with where a fault is.
abbrev pub GivesAt : {X Y : Type 0} → (X → Y) → Result X ReadFault → Result Y Placed → Type 0
GivesAt view (Ok x) read = read ≡ Ok (view x)
GivesAt view (Err Memory) read = ⊤
GivesAt view (Err (Here f)) read = read ≡ fails (code_view f)
GivesAt view (Err (Inside f way)) read = read ≡ fails_at (way_view way) (code_view f)

-- a fault of what is read itself
abbrev pub read_of : ConfigFault → ReadFault
read_of ConfigFault.Memory = Memory
read_of (ConfigFault.Fault f) = Here f

-- The second is the first, of the entry behind so many; or memory ran out.
abbrev pub IsWithin : ℕ → ReadFault → ReadFault → Type 0
IsWithin before e Memory = ⊤
IsWithin before (Here f) (Inside g way) = (code_view g ≡ code_view f) × (way_view way ≡ before ∷ [])
IsWithin before (Inside f inner) (Inside g way) = (code_view g ≡ code_view f) × (way_view way ≡ before ∷ way_view inner)
IsWithin before e d = ⊥
