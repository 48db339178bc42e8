-- The number of unrevoked clerk's keys after a key was added or revoked.
use Rattle.std.proofs.Common.{◌≡◌, ◌∙◌, ℕ, ◌+◌, ◌≤◌, Bool, true, false, cond, List, Some, None, refl, ap, arith}
use Rattle.std.specs.Prelude.{count_by, ◌&&◌, not}
use Rattle.std.specs.FinMap.{get, insert, empty, entries}
use Rattle.sigtext.specs.Bytes.{bytes_cmp}
use Rattle.boxes.specs.declared.rows.Role.{Role}
use Rattle.boxes.specs.declared.rows.Role.TheVariants.{Clerk, Link}
use Rattle.boxes.specs.State.{Key, State}
use Rattle.boxes.specs.Clerks.{clerks, is_clerk, is_acting}
use Rattle.boxes.proofs.EntrySums.{weight, sum-insert}
use Rattle.boxes.proofs.Lookups.{bytes_total, bytes_same, no_entries}

-- an office without keys has no clerk
pub no_clerks : (s : State) → s.keys ≡ empty → clerks s ≡ 0
no_clerks s e = ap (λ m. count_by (λ (x : List ℕ × Key). is_acting x.1) (entries m)) e ∙ ap (count_by (λ (x : List ℕ × Key). is_acting x.1)) (no_entries bytes_cmp)

-- the number after a key with a new id was added
pub clerks_added : (s : State) (id : List ℕ) (k : Key) → get s.keys id ≡ None → clerks (record s { keys = insert s.keys id k }) ≡ clerks s + cond (is_acting k) 1 0
clerks_added s id k none =
    let w = λ (e : List ℕ × Key). cond (is_acting e.1) 1 0 in
    let sum = sum-insert bytes_cmp bytes_total bytes_same w s.keys id k in
    let zero : weight w id (get s.keys id) ≡ 0 = ap (weight w id) none in
    omega (arith, sum, zero)

revoked_stops : (r : Role) → (is_clerk r && not true) ≡ false
revoked_stops Clerk = refl
revoked_stops Link = refl

-- the number after a key was revoked
pub clerks_revoked : (s : State) (id : List ℕ) (k : Key) → get s.keys id ≡ Some k → clerks (record s { keys = insert s.keys id (record k { revoked = true }) }) + cond (is_acting k) 1 0 ≡ clerks s
clerks_revoked s id k there =
    let w = λ (e : List ℕ × Key). cond (is_acting e.1) 1 0 in
    let q : Key = record k { revoked = true } in
    let sum = sum-insert bytes_cmp bytes_total bytes_same w s.keys id q in
    let was : weight w id (get s.keys id) ≡ cond (is_acting k) 1 0 = ap (weight w id) there in
    let now : w (id, q) ≡ 0 = ap (λ b. cond b 1 0) (revoked_stops k.role) in
    omega (arith, sum, was, now)

pub at_most_one : (b : Bool) → cond b 1 0 ≤ 1
at_most_one true = omega arith
at_most_one false = omega arith
