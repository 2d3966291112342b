-- What holds of a context that was made, and of the fault where it was not.
use Rattle.std.proofs.Common.{◌≡◌, Result, Ok, Err, IfOk, IfErr, ap, ℕ, List}
use Rattle.cox_base.specs.Matrix.{CoxeterMatrix}
use Rattle.cox_context.specs.declared.fault.ContextFault.{ContextFault}
use Rattle.cox_context.specs.declared.fault.ContextFault.TheVariants.{NoMemory}
use Rattle.cox_context.specs.Closed.{Elements}
use Rattle.cox_context.specs.FaultMeaning.{IsRefusal}

-- what holds of the members of a context that was made of them
pub made_members : {E : Type 0} (r : Result Elements E) (g : CoxeterMatrix) (words : List (List ℕ)) (Q : List (List ℕ) → Type 0)
    → IfOk r (λ c. c ≡ record { matrix = g; members = words }) → Q words
    → IfOk r (λ c. Q c.members)
made_members (Ok c) g words Q e q = let f : c.members ≡ words = ap (λ (x : Elements). x.members) e in rw f q
made_members (Err x) g words Q e q = tt

-- its matrix
pub made_matrix : {E : Type 0} (r : Result Elements E) (g h : CoxeterMatrix) (words : List (List ℕ))
    → IfOk r (λ c. c ≡ record { matrix = g; members = words }) → g ≡ h → IfOk r (λ c. c.matrix ≡ h)
made_matrix (Ok c) g h words e f = let m : c.matrix ≡ g = ap (λ (x : Elements). x.matrix) e in rw m f
made_matrix (Err x) g h words e f = tt

-- that memory ran out says nothing of the members
pub made_refused : (r : Result Elements ContextFault) (P : List ℕ → Type 0) (limit : ℕ) → IfErr r (λ fault. fault ≡ NoMemory)
    → IfErr r (IsRefusal P limit)
made_refused (Ok c) P limit e = tt
made_refused (Err x) P limit e = rw e tt
