-- The edges of the rules on places, bodies and the desk.
use Rattle.std.proofs.Common.{◌≡◌, ◌+◌, ℕ, Bool, true, false, List, [], ◌∷◌, codes, inl, inr, refl, sym, subst, arith}
use Rattle.std.specs.Prelude.{◌≢◌, IsTrue}
use Rattle.std.specs.FinMap.{empty}
use Rattle.sigtext.specs.declared.refusal.Refusal.TheVariants as rule
use Rattle.sigtext.specs.Request.{Request}
use Rattle.links.specs.WellFormed.{LinkValues, HasValue}
use Rattle.links.specs.Moments.{HasBegun, IsNotOver}
use Rattle.boxes.specs.Commands.{HasForm}
use Rattle.boxes.specs.Limits.{MayUse}
use Rattle.boxes.specs.State.{State}
use Rattle.boxes.specs.Steps.{Command}
use Rattle.examples.proofs.Limits.{one, its_box, no_other_box}
use Rattle.links.specs.CommandTexts.{IsCommand}
use Rattle.office.specs.Rules.{judged_at, place_of, MaySend, FormRule, Asks}
use Rattle.office.proofs.Deciding.{fetch_no_post, head_is}

-- the name is everything after the second slash, including further slashes and dots
place_of_name : place_of (codes "/in/a/../b c") ≡ record { box = codes "in"; name = codes "a/../b c" }
place_of_name = refl

place_of_box : place_of (codes "/in") ≡ record { box = codes "in"; name = [] }
place_of_box = refl

place_of_no_name : place_of (codes "/in/") ≡ record { box = codes "in"; name = [] }
place_of_no_name = refl

place_of_no_box : place_of (codes "//in/a") ≡ record { box = []; name = codes "in/a" }
place_of_no_box = refl

place_of_root : place_of (codes "/") ≡ record { box = []; name = [] }
place_of_root = refl

-- the desk is only at `/`
asks_at_desk : (p : LinkValues) (command : Command) (text : List ℕ) → p.path ≡ codes "/" → HasValue p.params (codes "desk") text → IsCommand text command → HasForm command → Asks p command
asks_at_desk p command text at given is form = record { at_desk = at; text = text; given = given; is_command = is; form = form }

-- a request with this method and body, with or without a Content-Length
abbrev request_by : List ℕ → Bool → List ℕ → Request
request_by method has_length body = record { method = method; target = []; headers = []; has_length = has_length; body = body }

module _ (s : State) (p : LinkValues) where
  get_without_body : FormRule rule.BodyNotTaken s (request_by (codes "GET") true []) p
  get_without_body other = refl

  get_with_body : FormRule rule.BodyNotTaken s (request_by (codes "GET") true (97 ∷ [])) p → ⊥
  get_with_body holds = full (holds no_put)
    where
      head_is : (x y : ℕ) (xs ys : List ℕ) → x ∷ xs ≡ y ∷ ys → x ≡ y
      head_is x y xs ys e = cc

      no_put : codes "GET" ≢ codes "PUT"
      no_put e = let first = head_is 71 80 (69 ∷ 84 ∷ []) (85 ∷ 84 ∷ []) e in absurd (omega (arith, first))

      full : ◌≡◌ {A = List ℕ} (97 ∷ []) [] → ⊥
      full e = cc

  put_with_body : FormRule rule.BodyNotTaken s (request_by (codes "PUT") true (97 ∷ [])) p
  put_with_body other = absurd (other refl)

  put_with_length : FormRule rule.LengthMissing s (request_by (codes "PUT") true []) p
  put_with_length is = refl

  put_without_length : FormRule rule.LengthMissing s (request_by (codes "PUT") false []) p → ⊥
  put_without_length holds = false_true (holds refl)
    where
      false_true : IsTrue false → ⊥
      false_true e = cc

b2_in : codes "b2" ≡ codes "in" → ⊥
b2_in e = let x = head_is 98 105 (50 ∷ []) (110 ∷ []) e in omega (arith, x)

none_in : ◌≡◌ {A = List ℕ} [] (codes "in") → ⊥
none_in e = cc

-- a key that is limited to the box `in` reaches it and no other, whether it exists or not
module _ (s : State) (nobody : s.limits ≡ empty) (p : LinkValues) (k2 : p.key_id ≡ codes "k2") where
  reaches_its_box : p.path ≡ codes "/in/x" → MaySend (one s nobody) (request_by (codes "GET") false []) p
  reaches_its_box at = record {
    desk = λ post. absurd (fetch_no_post (request_by (codes "GET") false []) (inl refl) post);
    boxes = λ uses.
        subst (λ (path : List ℕ). MayUse (one s nobody) p.key_id (place_of path).box) (sym at)
        (subst (λ (id : List ℕ). MayUse (one s nobody) id (codes "in")) (sym k2) (its_box s nobody));
  }

  reaches_no_other : p.path ≡ codes "/b2/x" → MaySend (one s nobody) (request_by (codes "PUT") true []) p → ⊥
  reaches_no_other at may =
      no_other_box s nobody (codes "b2") b2_in
      (subst (λ (id : List ℕ). MayUse (one s nobody) id (codes "b2")) k2
      (subst (λ (path : List ℕ). MayUse (one s nobody) p.key_id (place_of path).box) at (may.boxes (inl refl))))

  -- the path `/` is in no box
  reaches_no_root : p.path ≡ codes "/" → MaySend (one s nobody) (request_by (codes "HEAD") false []) p → ⊥
  reaches_no_root at may =
      no_other_box s nobody [] none_in
      (subst (λ (id : List ℕ). MayUse (one s nobody) id []) k2
      (subst (λ (path : List ℕ). MayUse (one s nobody) p.key_id (place_of path).box) at (may.boxes (inr (inr refl)))))

-- With an allowance of 900 seconds a link begins exactly that much earlier. Its end does not change.
module _ (s : State) (allowed : s.allowance ≡ 900) (now : ℕ) where
  begun_early : HasBegun (judged_at s now) (now + 900)
  begun_early = omega (arith, allowed)

  not_begun : HasBegun (judged_at s now) (now + 901) → ⊥
  not_begun begun = omega (arith, allowed, begun)

  over_in_time : (start expires : ℕ) → now ≡ start + expires → IsNotOver (judged_at s now) start expires → ⊥
  over_in_time start expires at not_over = omega (arith, at, not_over)
