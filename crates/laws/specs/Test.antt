-- A test's answer, and what it says.
use Rattle.std.specs.Prelude.{◌≡◌, ◌↔◌, Bool, true, false}
use Rattle.std.proofs.Common.{subst}

-- A if the test holds, else B
abbrev pub Tells : (A B : Type 0) → Bool → Type 0
Tells A B true = A
Tells A B false = B

-- the test holds exactly when A
abbrev pub Says : Type 0 → Bool → Type 0
Says A = Tells A (A → ⊥)

pub told : {A : Type 0} (B : Type 0) (r : Bool) → Tells A B r → r ≡ true → A
told {A} B r h e = subst (λ (x : Bool). Tells A B x) e h

pub untold : (A : Type 0) {B : Type 0} (r : Bool) → Tells A B r → r ≡ false → B
untold A {B} r h e = subst (λ (x : Bool). Tells A B x) e h

pub said : {A : Type 0} (r : Bool) → Says A r → r ≡ true → A
said {A} r h e = told (A → ⊥) r h e

pub denied : {A : Type 0} (r : Bool) → Says A r → r ≡ false → A → ⊥
denied {A} r h e = untold A r h e

-- what a test says of one statement it says of an equivalent one
pub says_of : {A B : Type 0} → A ↔ B → (r : Bool) → Says A r → Says B r
says_of e true h = e.0 h
says_of e false h = λ b. h (e.1 b)
