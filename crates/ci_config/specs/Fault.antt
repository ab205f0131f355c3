-- What is wrong with a tree.
use Rattle.std.specs.Prelude.{ℕ, List, ◌++◌, codes}
use Rattle.ci_expr.specs.declared.fault.ExprCode.{ExprCode}
use Rattle.ci_expr.specs.Prelude.{code_of}

pub data Fault : Type 0 where
  K1 : Fault
  K2 : List ℕ → Fault
  K3 : Fault
  K4 : Fault
  K5 : Fault
  K6 : Fault
  K7 : Fault
  K8 : Fault
  K9 : Fault
  K10 : Fault
  K11 : Fault
  K12 : Fault
  K13 : ExprCode → Fault
  K14 : Fault
  K15 : Fault
  K16 : Fault

-- the number of its code
abbrev pub number : Fault → ℕ
number K1 = 1
number (K2 name) = 2
number K3 = 3
number K4 = 4
number K5 = 5
number K6 = 6
number K7 = 7
number K8 = 8
number K9 = 9
number K10 = 10
number K11 = 11
number K12 = 12
number (K13 x) = 13
number K14 = 14
number K15 = 15
number K16 = 16

-- A fault, and the way from the file inwards to the entry that has it: of each list or map on it, how many entries stand before the next. The
-- way of what no single entry is to blame for has no step.
pub record Placed : Type 0 where
  pub fault : Fault
  pub way : List ℕ

abbrev pub placed : Fault → List ℕ → Placed
placed fault way = record { fault = fault; way = way }

-- the code, and what it names: `K6`, `K2 image`, `K13 X4`
abbrev pub said : Fault → List ℕ
said K1 = codes "K1"
said (K2 name) = codes "K2 " ++ name
said K3 = codes "K3"
said K4 = codes "K4"
said K5 = codes "K5"
said K6 = codes "K6"
said K7 = codes "K7"
said K8 = codes "K8"
said K9 = codes "K9"
said K10 = codes "K10"
said K11 = codes "K11"
said K12 = codes "K12"
said (K13 x) = codes "K13 " ++ code_of x
said K14 = codes "K14"
said K15 = codes "K15"
said K16 = codes "K16"
