-- A whole head breaks no rule, and is read again as before.
use Rattle.std.proofs.Common.{◌≡◌, ℕ, Bool, List, [], ◌++◌, take, drop, arith, sym, ap, subst, ◌∙◌, take-append-drop, codes}
use denote.Struct.Props.{props}
use Rattle.std.proofs.Math.Logic.{∥∥₁_elim}
use Rattle.std.proofs.lemmas.List.{append-nil}
use Rattle.httparse.specs.Grammar.{RequestHead}
use Rattle.httparse.proofs.GrammarLemmas.{request_unique}
use Rattle.sigtext.specs.SignedHeaders.{named}
use Rattle.sigtext.specs.declared.refusal.Refusal.{Refusal}
use Rattle.wire.specs.Feeding.{Opens}
use Rattle.wire.specs.Framing.{Announces, EndsHead, IsFront, IsHead, headers_of}
use Rattle.wire.specs.Heads.{HasNoHeadEnd, IsHeadEnd}
use Rattle.wire.specs.Judging.{Breaks, HeadAnnounces}
use Rattle.wire.specs.Judging as breaks
use Rattle.wire.specs.Underways.{IsWholeHead}
use Rattle.wire.proofs.Fronts.{same_length}
use Rattle.wire.proofs.WaitingFronts.{has_head}

module _ {text : List ℕ} {size : ℕ} where
  same_size : {has_length : Bool} (o : Opens text has_length size) (head : RequestHead) (b : Bool) (n : ℕ) → HeadAnnounces text head b n → n ≡ size
  same_size {has_length} o head b n tells =
      same_length text head o.head b has_length n size [] [] (has_head text text [] head b n o.is_front tells) (has_head text text [] o.head has_length size o.is_front o.tells)

  same_head : {has_length : Bool} (o : Opens text has_length size) (head : RequestHead) → IsHead text head → o.head ≡ head
  same_head o head is_head = (request_unique text o.head head [] [] o.tells.is_head.reads is_head.reads).0

  breaks_none : {has_length : Bool} (r : Refusal) → Opens text has_length size → Breaks text r → ⊥
  breaks_none _ o (breaks.malformed none) = none o.head o.tells.is_head
  breaks_none _ o (breaks.coded head is_head coded) =
      coded (subst (λ (h : RequestHead). named (codes "transfer-encoding") (headers_of h) ≡ []) (same_head o head is_head) o.tells.uncoded)
  breaks_none {has_length} _ o (breaks.no_length head is_head uncoded none) =
      none has_length size (subst (λ (h : RequestHead). Announces (headers_of h) has_length size) (same_head o head is_head) o.tells.announces)
  breaks_none _ o (breaks.too_large head n tells large) = omega (arith, large, o.small, same_size o head _ n tells)

  -- a whole head has an end
  pub whole_ends : IsWholeHead text size → HasNoHeadEnd text → ⊥
  whole_ends whole none = ∥∥₁_elim whole (hlevel props) (λ (w : (b : Bool) × Opens text b size). none text [] (sym (append-nil text)) w.1.is_front.ends)

  -- no rule refuses it
  pub whole_stands : (r : Refusal) → IsWholeHead text size → Breaks text r → ⊥
  whole_stands r whole broken = ∥∥₁_elim whole (hlevel props) (λ (w : (b : Bool) × Opens text b size). breaks_none r w.1 broken)

  -- it announces a body of the same size
  pub whole_size : (head : RequestHead) (b : Bool) (n : ℕ) → IsWholeHead text size → HeadAnnounces text head b n → n ≡ size
  whole_size head b n whole tells = ∥∥₁_elim whole (hlevel props) (λ (w : (b : Bool) × Opens text b size). same_size w.1 head b n tells)

  -- it is the front that ends where its first end is
  pub whole_front : (n : ℕ) → IsWholeHead text size → IsHeadEnd text n → IsFront text text []
  whole_front n whole h =
      let none : drop n text ≡ [] = ∥∥₁_elim whole (hlevel props) (λ (w : (b : Bool) × Opens text b size). w.1.is_front.shortest (take n text) (drop n text) (sym (take-append-drop n text)) h.ends) in
      let all : take n text ≡ text = sym (append-nil (take n text)) ∙ ap (λ (t : List ℕ). take n text ++ t) (sym none) ∙ take-append-drop n text in
      record {
        whole = sym (append-nil text);
        ends = subst EndsHead all h.ends;
        short = ∥∥₁_elim whole (hlevel props) (λ (w : (b : Bool) × Opens text b size). w.1.is_front.short);
        shortest = λ front more e ends. h.shortest front more (all ∙ e) ends;
      }

  -- what is read again
  pub whole_opens : (n m : ℕ) (b : Bool) (head : RequestHead) → IsWholeHead text size → IsHeadEnd text n → HeadAnnounces text head b m → Opens text b size
  whole_opens n m b head whole end tells =
      let same = whole_size head b m whole tells in
      record {
        is_front = whole_front n whole end;
        small = ∥∥₁_elim whole (hlevel props) (λ (w : (b : Bool) × Opens text b size). w.1.small);
        head = head;
        tells = subst (HeadAnnounces text head b) same tells;
      }
