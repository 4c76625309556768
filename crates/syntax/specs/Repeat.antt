-- A syntax that is read several times.
use Rattle.std.specs.Prelude.{ℕ, zero, suc, ◌+◌, Bool}
use Rattle.syntax.specs.Syntax.{Syntax, done, branch, sub, read_over}

-- n times, from the turn i on: what was read so far goes in, and comes out
unfoldable pub repeat : {A : Type 0} → (ℕ → A → Syntax A) → ℕ → ℕ → A → Syntax A
repeat f i zero a = done a
repeat f i (suc n) a = sub (f i a) (λ b. repeat f (i + 1) n b)

-- as long as the test holds, at most so many times
unfoldable pub whilst : {A : Type 0} → (A → Bool) → (A → Syntax A) → ℕ → A → Syntax A
whilst t f zero a = done a
whilst t f (suc n) a = branch (t a) (sub (f a) (λ b. whilst t f n b)) (done a) (λ b. done b)

-- n times, and nothing is kept
unfoldable pub times : {A : Type 0} → ℕ → Syntax A → Syntax (Unit {0})
times zero x = read_over
times (suc n) x = sub x (λ v. times n x)
