-- Laws of reading: what is read is legal, and is read as it stands once more.
use Rattle.std.specs.Prelude.{◌≡◌, Result, Ok}
use Rattle.mv_pack.specs.declared.fault.PackFault.{PackFault}

-- what is read is legal
abbrev pub ReadsLegal : {A B : Type 0} → (A → Result B PackFault) → (B → Type 0) → Type 0
ReadsLegal {A = A} {B = B} read IsLegal = (given : A) (value : B) → read given ≡ Ok value → IsLegal value

-- what is legal is read as itself
abbrev pub ReadsAsItself : {A : Type 0} → (A → Result A PackFault) → (A → Type 0) → Type 0
ReadsAsItself {A = A} read IsLegal = (value : A) → IsLegal value → read value ≡ Ok value
