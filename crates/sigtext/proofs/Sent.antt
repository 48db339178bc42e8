-- How much of a text a sink took.
use Rattle.std.proofs.Common.{◌≡◌, ℕ, List, [], ◌++◌, refl, sym, ap, subst, ◌∙◌, append_assoc, Result, Ok, Err}
use Rattle.std.specs.Prelude.{OnErr}
use Rattle.std.proofs.lemmas.List.{append-nil}
use Rattle.sigtext.specs.Sinks.{TakesBeginning}

-- the sink took the whole text except this rest
pub record Sent {S : Type 0} (takes : S → List ℕ → S → Type 0) (old : S) (whole rest : List ℕ) (new : S) : Type 0 where
  pub front : List ℕ
  pub joined : whole ≡ front ++ rest
  pub taken : takes old front new

-- taking one text and then another is taking both, joined
abbrev pub Joins : {S : Type 0} → (S → List ℕ → S → Type 0) → Type 0
Joins {S} takes = (s t u : S) (a b : List ℕ) → takes s a t → takes t b u → takes s (a ++ b) u

-- the state after an error
pub at_error : {T E P : Type 0} (r : Result T E) → P → OnErr r P
at_error (Ok x) h = tt
at_error (Err e) h = h

module _ {S : Type 0} {takes : S → List ℕ → S → Type 0} where
  pub sent_nothing : {old : S} {whole rest : List ℕ} → whole ≡ rest → takes old [] old → Sent takes old whole rest old
  sent_nothing is h = record { front = []; joined = is; taken = h }

  -- one more step
  pub sent_more : {old mid new : S} {whole rest piece later : List ℕ} → Joins takes → Sent takes old whole rest mid → rest ≡ piece ++ later → takes mid piece new
      → Sent takes old whole later new
  sent_more {old} {mid} {new} {piece = piece} {later = later} joins s is h = record {
    front = s.front ++ piece;
    joined = s.joined ∙ ap (λ (t : List ℕ). s.front ++ t) is ∙ sym (append_assoc s.front piece later);
    taken = joins old mid new s.front piece s.taken h;
  }

  -- the rest in another form
  pub sent_step : {old new : S} {whole rest later : List ℕ} → Sent takes old whole rest new → rest ≡ later → Sent takes old whole later new
  sent_step s is = record { front = s.front; joined = s.joined ∙ ap (λ (t : List ℕ). s.front ++ t) is; taken = s.taken }

  -- no rest
  pub sent_all : {old new : S} {whole rest : List ℕ} → Sent takes old whole rest new → rest ≡ [] → takes old whole new
  sent_all {old} {new} s is =
      subst (λ (t : List ℕ). takes old t new) (sym (s.joined ∙ ap (λ (t : List ℕ). s.front ++ t) is ∙ append-nil s.front)) s.taken

  -- the last step
  pub sent_last : {old mid new : S} {whole rest : List ℕ} → Joins takes → Sent takes old whole rest mid → takes mid rest new → takes old whole new
  sent_last {rest = rest} joins s h = sent_all (sent_more joins s (sym (append-nil rest)) h) refl

  -- a step that took a prefix of its piece
  pub sent_part : {old mid new : S} {whole rest piece : List ℕ} (later : List ℕ) → Joins takes → Sent takes old whole rest mid → rest ≡ piece ++ later
      → TakesBeginning takes mid piece new → TakesBeginning takes old whole new
  sent_part {old} {mid} {new} later joins s is h =
      let more = h.is_front in record {
        front = s.front ++ h.front;
        is_front = record {
          rest = more.rest ++ later;
          joined =
              s.joined ∙ ap (λ (t : List ℕ). s.front ++ t) (is ∙ ap (λ (t : List ℕ). t ++ later) more.joined ∙ append_assoc h.front more.rest later)
              ∙ sym (append_assoc s.front h.front (more.rest ++ later));
        };
        taken = joins old mid new s.front h.front s.taken h.taken;
      }

  -- the last step, which took a prefix of its piece
  pub sent_last_part : {old mid new : S} {whole rest : List ℕ} → Joins takes → Sent takes old whole rest mid → TakesBeginning takes mid rest new → TakesBeginning takes old whole new
  sent_last_part {rest = rest} joins s h = sent_part [] joins s (sym (append-nil rest)) h

  -- a step that took nothing
  pub sent_none : {old mid new : S} {whole rest : List ℕ} → Joins takes → Sent takes old whole rest mid → takes mid [] new → TakesBeginning takes old whole new
  sent_none {old} {mid} {new} {rest = rest} joins s h =
      record {
        front = s.front;
        is_front = record { rest = rest; joined = s.joined };
        taken = subst (λ (t : List ℕ). takes old t new) (append-nil s.front) (joins old mid new s.front [] s.taken h);
      }
