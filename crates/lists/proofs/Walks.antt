-- A walk that sends each file.
use Rattle.std.proofs.Common.{◌≡◌, ◌∙◌, Bool, true, false, cond, List, [], ◌∷◌, ◌++◌, Option, Some, None, Ok, Err, refl, sym, ap, subst, append-nil}
use Rattle.std.specs.Prelude.{⊤, IsSome}
use Rattle.std.specs.FinMap.{FinMap, get, entries, entries_sorted, find, get-entries}
use Rattle.std.specs.declared.cmp.Ordering.TheVariants.{Less}
use Rattle.boxes.specs.State.{File, Place, place_cmp, State}
use Rattle.boxes.proofs.FileTotals.{place_same}
use Rattle.boxes.proofs.Lookups.{place_total}
use Rattle.boxes.specs.Next.{IsNext}
use Rattle.lists.proofs.Walk.{Cut, begins, ends, moves}
use Rattle.lists.specs.Exports.{IsAmong, SendsFiles, SendsFirst, Shown}
use Rattle.lists.proofs.SentFiles.{none_sent, sent_joined, sent_whole}

-- no file was sent
pub none_first : {U F : Type 0} (s : State) (all : List (Place × File)) (o : Shown) (f : F) → SendsFirst {T = U} s all o o (Err f)
none_first s all o f = record {
  first = [];
  are_first = record { rest = all; cut = refl; whole = tt };
  sends = none_sent s o (Err f);
}

module _ (s : State) (m : FinMap place_cmp File) where
  -- the files up to this place were sent
  pub record Walked (after : Place) (old new : Shown) : Type 0 where
    pub done : List (Place × File)
    pub rest : List (Place × File)
    pub cut : Cut place_cmp after (entries m) done rest
    pub sends : SendsFiles {T = ⊤} {E = ⊤} s done old new (Ok tt)

  among : (after : Place) (found : Option Place) → IsNext place_cmp (IsAmong m) after found → IsNext place_cmp (λ k. IsSome (find place_cmp k (entries m))) after found
  among after found next = subst (λ (g : Place → Option File). IsNext place_cmp (λ k. IsSome (g k)) after found) (λ i k. get-entries m k i) next

  pub walk_begins : (after : Place) (old : Shown) → ((k : Place) → IsAmong m k → place_cmp after k ≡ Less) → Walked after old old
  walk_begins after old behind = record {
    done = [];
    rest = entries m;
    cut = begins place_cmp place_total place_same after (entries m) (entries_sorted m) (λ k there. behind k (subst (λ (g : Place → Option File). IsSome (g k)) (λ i q. sym (get-entries m q) i) there));
    sends = none_sent s old (Ok tt);
  }

  pub walk_ends : {U F : Type 0} (after : Place) (old new : Shown) (u : U) → Walked after old new → IsNext place_cmp (IsAmong m) after None
      → SendsFirst {E = F} s (entries m) old new (Ok u)
  walk_ends after old new u it none = record {
    first = it.done;
    are_first = record { rest = it.rest; cut = it.cut.joined; whole = ends place_cmp place_total place_same after (entries m) it.done it.rest it.cut (among after None none) };
    sends = sent_whole s it.done old new tt (Ok u) it.sends;
  }

  pub walk_breaks : {U F : Type 0} (after : Place) (old new : Shown) (f : F) → Walked after old new → SendsFirst {T = U} s (entries m) old new (Err f)
  walk_breaks after old new f it = record {
    first = it.done;
    are_first = record { rest = it.rest; cut = it.cut.joined; whole = tt };
    sends = sent_whole s it.done old new tt (Err f) it.sends;
  }

  pub walk_moves : {U E : Type 0} (after k : Place) (old mid new : Shown) (u : U) → Walked after old mid → IsNext place_cmp (IsAmong m) after (Some k)
      → ((f : File) → get m k ≡ Some f → SendsFiles {E = E} s ((k, f) ∷ []) mid new (Ok u)) → Walked k old new
  walk_moves after k old mid new u it next sends =
      let (x, more, there, cut) = moves place_cmp place_total place_same after (entries m) it.done it.rest k (entries_sorted m) it.cut (among after (Some k) next) in
      record {
        done = it.done ++ (k, x) ∷ [];
        rest = more;
        cut = cut;
        sends = sent_joined s it.done ((k, x) ∷ []) old mid new tt (Ok tt) it.sends (sent_whole s ((k, x) ∷ []) mid new u (Ok tt) (sends x (get-entries m k ∙ there)));
      }

  -- the next file failed, before or after it was put
  pub walk_stops : {U E : Type 0} (after k : Place) (old mid new : Shown) (u : U) (e : E) (b : Bool) → Walked after old mid → IsNext place_cmp (IsAmong m) after (Some k)
      → ((f : File) → get m k ≡ Some f → SendsFiles {T = U} s (cond b ((k, f) ∷ []) []) mid new (Err e)) → SendsFirst {T = U} s (entries m) old new (Err e)
  walk_stops after k old mid new u e true it next sends =
      let (x, more, there, cut) = moves place_cmp place_total place_same after (entries m) it.done it.rest k (entries_sorted m) it.cut (among after (Some k) next) in
      record {
        first = it.done ++ (k, x) ∷ [];
        are_first = record { rest = more; cut = cut.joined; whole = tt };
        sends = sent_joined s it.done ((k, x) ∷ []) old mid new u (Err e) (sent_whole s it.done old mid tt (Ok u) it.sends) (sends x (get-entries m k ∙ there));
      }
  walk_stops after k old mid new u e false it next sends =
      let (x, more, there, cut) = moves place_cmp place_total place_same after (entries m) it.done it.rest k (entries_sorted m) it.cut (among after (Some k) next) in
      record {
        first = it.done ++ [];
        are_first = record { rest = it.rest; cut = it.cut.joined ∙ ap (λ t. t ++ it.rest) (sym (append-nil it.done)); whole = tt };
        sends = sent_joined s it.done [] old mid new u (Err e) (sent_whole s it.done old mid tt (Ok u) it.sends) (sends x (get-entries m k ∙ there));
      }
