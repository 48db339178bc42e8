-- Writing a list while walking through the entries of a finite map.
use Rattle.std.proofs.Common.{◌≡◌, ◌∙◌, ℕ, List, [], ◌∷◌, ◌++◌, Option, Some, None, Result, Ok, Err, refl, sym, subst}
use Rattle.std.specs.Prelude.{IsSome, ⊤}
use Rattle.std.specs.declared.cmp.Ordering.{Ordering}
use Rattle.std.specs.declared.cmp.Ordering.TheVariants.{Less}
use Rattle.std.specs.Cmp.{IsTotalOrder}
use Rattle.std.specs.FinMap.{FinMap, get, entries, entries_sorted, find, get-entries, IsAntisymmetric}
use Rattle.wire.specs.Sending.{Sends}
use Rattle.wire.proofs.Written.{sends_both}
use Rattle.lists.specs.Lists.{line, AreLines}
use Rattle.lists.proofs.AnsweredLists.{lines_none, lines_push, none_table, sends_err, sends_nothing, sends_whole}
use Rattle.boxes.specs.Next.{IsNext}
use Rattle.lists.specs.Written.{SendsLines, WritesList}
use Rattle.lists.proofs.Walk.{Cut, begins, ends, moves}

-- ---- the header line and the lines after it

-- writing the header line failed
pub head_breaks : {A T U E F : Type 0} (head : List (List ℕ)) (IsLine : A → List ℕ → Type 0) (all : List A) (old new : Option (List ℕ)) (e : E) (f : F)
    → Sends {T = T} (line head) old new (Err e) → WritesList {T = U} head IsLine all old new (Err f)
head_breaks head IsLine all old new e f sent = record {
  first = [];
  are_first = record { rest = all; cut = refl; whole = tt };
  text = line head;
  table = none_table head IsLine;
  sent = sends_err e f sent;
}

pub head_then : {A T E : Type 0} (head : List (List ℕ)) (IsLine : A → List ℕ → Type 0) (all : List A) (old mid new : Option (List ℕ)) (u : T) (result : Result T E)
    → Sends {E = E} (line head) old mid (Ok u) → SendsLines IsLine all mid new result → WritesList head IsLine all old new result
head_then head IsLine all old mid new u result sent it = record {
  first = it.first;
  are_first = it.are_first;
  text = line head ++ it.text;
  table = record { lines = it.text; are = it.lines; is = refl };
  sent = sends_both (line head) it.text old mid new u result sent it.sent;
}

-- ---- the lines of entries

module _ {K X : Type 0} {R : K → K → Ordering} (m : FinMap R X) (IsLine : K × X → List ℕ → Type 0) where
  -- the lines of the entries up to this key were written
  pub record Walked (after : K) (old new : Option (List ℕ)) : Type 0 where
    pub done : List (K × X)
    pub rest : List (K × X)
    pub cut : Cut R after (entries m) done rest
    pub text : List ℕ
    pub lines : AreLines IsLine done text
    pub sent : Sends {T = ⊤} {E = ⊤} text old new (Ok tt)

  -- the map has the key
  abbrev pub InMap : K → Type 0
  InMap k = IsSome (get m k)

  among : (after : K) (found : Option K) → IsNext R InMap after found → IsNext R (λ k. IsSome (find R k (entries m))) after found
  among after found next = subst (λ (g : K → Option X). IsNext R (λ k. IsSome (g k)) after found) (λ i k. get-entries m k i) next

  -- the walk stopped for any reason
  pub walk_breaks : {U F : Type 0} (after : K) (old new : Option (List ℕ)) (f : F) → Walked after old new → SendsLines {T = U} IsLine (entries m) old new (Err f)
  walk_breaks after old new f it = record {
    first = it.done;
    are_first = record { rest = it.rest; cut = it.cut.joined; whole = tt };
    text = it.text;
    lines = it.lines;
    sent = sends_whole tt _ it.sent;
  }

  module _ (total : IsTotalOrder R) (same : IsAntisymmetric R) where
    pub walk_begins : (after : K) (old : Option (List ℕ)) → ((k : K) → InMap k → R after k ≡ Less) → Walked after old old
    walk_begins after old behind = record {
      done = [];
      rest = entries m;
      cut = begins R total same after (entries m) (entries_sorted m) (λ k there. behind k (subst (λ (g : K → Option X). IsSome (g k)) (λ i q. sym (get-entries m q) i) there));
      text = [];
      lines = lines_none IsLine;
      sent = sends_nothing old;
    }

    pub walk_ends : {U F : Type 0} (after : K) (old new : Option (List ℕ)) (u : U) → Walked after old new → IsNext R InMap after None
        → SendsLines {E = F} IsLine (entries m) old new (Ok u)
    walk_ends after old new u it none = record {
      first = it.done;
      are_first = record { rest = it.rest; cut = it.cut.joined; whole = ends R total same after (entries m) it.done it.rest it.cut (among after None none) };
      text = it.text;
      lines = it.lines;
      sent = sends_whole tt _ it.sent;
    }

    -- the line of the next entry was written
    pub walk_moves : {T E : Type 0} (after k : K) (line : List ℕ) (old mid new : Option (List ℕ)) (u : T) → Walked after old mid → IsNext R InMap after (Some k)
        → ((x : X) → get m k ≡ Some x → IsLine (k, x) line) → Sends {E = E} line mid new (Ok u) → Walked k old new
    walk_moves after k line old mid new u it next is_line sent =
        let (x, more, there, cut) = moves R total same after (entries m) it.done it.rest k (entries_sorted m) it.cut (among after (Some k) next) in
        record {
          done = it.done ++ (k, x) ∷ [];
          rest = more;
          cut = cut;
          text = it.text ++ line;
          lines = lines_push IsLine it.done it.text (k, x) line it.lines (is_line x (get-entries m k ∙ there));
          sent = sends_both it.text line old mid new tt (Ok tt) it.sent (sends_whole u _ sent);
        }

    -- writing the line of the next entry failed
    pub walk_stops : {T U E F : Type 0} (after k : K) (line : List ℕ) (old mid new : Option (List ℕ)) (u : U) (e : E) (f : F) → Walked after old mid
        → IsNext R InMap after (Some k) → ((x : X) → get m k ≡ Some x → IsLine (k, x) line) → Sends {T = T} line mid new (Err e)
        → SendsLines {T = U} IsLine (entries m) old new (Err f)
    walk_stops after k line old mid new u e f it next is_line sent =
        let (x, more, there, cut) = moves R total same after (entries m) it.done it.rest k (entries_sorted m) it.cut (among after (Some k) next) in
        record {
          first = it.done ++ (k, x) ∷ [];
          are_first = record { rest = more; cut = cut.joined; whole = tt };
          text = it.text ++ line;
          lines = lines_push IsLine it.done it.text (k, x) line it.lines (is_line x (get-entries m k ∙ there));
          sent = sends_both it.text line old mid new u (Err f) (sends_whole tt (Ok u) it.sent) (sends_err e f sent);
        }
