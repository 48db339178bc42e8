use Rattle.std.proofs.Common.{◌≡◌, ℕ, ◌<◌, ◌≤◌, List, ◌++◌, length, take, ap, sym, ◌∙◌, append_assoc, arith, length-append}
use Rattle.std.proofs.lemmas.List.Elements.{All-from_get_or}
use Rattle.std.proofs.lemmas.List.{append-nil, take-append-le}
use Rattle.std.proofs.lemmas.Grind.{common_steps}
use Rattle.percent_encoding.specs.Iter.{encoded_text}
use Rattle.sigtext.specs.UriEncode.{uri_encoded}
use Rattle.sigtext.proofs.Encoding.{percent_encode-is}
use Rattle.sigtext.proofs.encode.uri_encode.Goals as goal

-- one more piece
one_more : (out new piece bytes before later whole : List ℕ) → new ≡ out ++ bytes → bytes ≡ piece → before ≡ piece ++ later → out ++ before ≡ whole → new ++ later ≡ whole
one_more out new piece bytes before later whole grown is step text =
    ap (λ (t : List ℕ). t ++ later) (grown ∙ ap (λ (t : List ℕ). out ++ t) is) ∙ append_assoc out piece later ∙ ap (λ (t : List ℕ). out ++ t) (sym step) ∙ text

same_front : (start : ℕ) (out new bytes front : List ℕ) → new ≡ out ++ bytes → start ≤ length out → take start out ≡ front → take start new ≡ front
same_front start out new bytes front grown long is = ap (take start) grown ∙ take-append-le start out bytes long ∙ is

longer : (start : ℕ) (out new bytes : List ℕ) → new ≡ out ++ bytes → start ≤ length out → start ≤ length new
longer start out new bytes grown long = omega (arith, ap length grown, length-append out bytes, long)

pub loop-piece-preserved : goal.loop-piece-preserved
loop-piece-preserved c =
    let out = c.loop-piece.out.items in
    let new = c.extend_from_slice.new.self.items in
    let sofar = c.loop-piece.invariant in
    let grown = c.in_default.ensures.items in
    record {
      text = one_more out new c.in-Some.piece.now c.as_bytes.result.now _ _ _ grown c.as_bytes.ensures.value c.in-Some.ensures.steps sofar.text;
      front = same_front c.len-start.result out new c.as_bytes.result.now c.args.out.now.items grown sofar.long sofar.front;
      long = longer c.len-start.result out new c.as_bytes.result.now grown sofar.long;
      room = omega (arith, c.in_default.ensures.capacity, sofar.room);
    }

pub returns-clause-ok : goal.returns-clause-ok
returns-clause-ok c =
    let small = All-from_get_or (λ b. b < 256) c.args.bytes.now 0 (λ i within. omega (arith, c.type_inv.bytes i)) in
    let whole = percent_encode-is c.args.slash c.escaped.result c.args.bytes.now c.escaped.ensures small in
    let text : encoded_text c.into_iter-piece-iterator.result ≡ uri_encoded c.args.slash c.args.bytes.now = ap encoded_text c.into_iter-piece-iterator.ensures.into_iter_gives ∙ c.percent_encode-text.ensures.text ∙ whole in
    let sofar = c.loop-piece.invariant.text in
    let ends = c.in-None.ensures.steps in
    rw (← text, ← sofar, ends) (sym (append-nil c.loop-piece.out.items))

pub returns-in-Err-clause-full : goal.returns-in-Err-clause-full
returns-in-Err-clause-full c =
    let small = All-from_get_or (λ b. b < 256) c.args.bytes.now 0 (λ i within. omega (arith, c.type_inv.bytes i)) in
    let whole = percent_encode-is c.args.slash c.escaped.result c.args.bytes.now c.escaped.ensures small in
    let text : encoded_text c.into_iter-piece-iterator.result ≡ uri_encoded c.args.slash c.args.bytes.now = ap encoded_text c.into_iter-piece-iterator.ensures.into_iter_gives ∙ c.percent_encode-text.ensures.text ∙ whole in
    let lengths = simp length-append at (ap length (rw c.in-Some.ensures.steps at c.loop-piece.invariant.text)) in
    rw (← text) (omega (arith, lengths, c.in-Err.ensures.full, c.loop-piece.out.ok.0, c.args.out.now.ok.0))

pub loop-piece-init : goal.loop-piece-init
loop-piece-init c = grind (arith, common_steps)

pub returns-in-Err-clause-err : goal.returns-in-Err-clause-err
returns-in-Err-clause-err c = grind arith
