use Rattle.std.proofs.Common.{◌≡◌, ℕ, List, [], length, take, Option, Ok, sym, ap, subst, ◌∙◌, arith, lit<, lit≤}
use Rattle.std.proofs.lemmas.List.{length-take, length-take-le}
use Rattle.std.proofs.lemmas.Grind.{common_steps}
use Rattle.sigtext.specs.declared.refusal.Refusal.TheVariants as rule
use Rattle.wire.specs.Framing.{IsFront, Next, Refused, Ended, Truncated}
use Rattle.wire.specs.Framing as next
use Rattle.wire.specs.Judging.{HeadAnnounces}
use Rattle.wire.specs.Openings.{ArePartsOf}
use Rattle.wire.specs.Waiting.{Shows, Spends, waiting}
use Rattle.wire.specs.declared.feed.Step.{Step}
use Rattle.wire.proofs.WaitingFronts.{of_whole, of_end, awaits_head, text_alone, text_copied, opened, barred, next_too_long, next_truncated, breaks_early}
use Rattle.wire.specs.declared.feed.Opening.{Opening}
use Rattle.wire.proofs.Faults.{counts_same, finds_none}
use Rattle.wire.proofs.cutting.find.Goals as goal

-- what the bytes show, for an equal step
shown : (bytes : List ℕ) (reader : Option (List ℕ)) {s t : Step ℕ} → s ≡ t → Shows (Ok s) bytes reader → Shows (Ok t) bytes reader
shown bytes reader is shows = subst (λ (step : Step ℕ). Shows (Ok step) bytes reader) is shows

pub take-requires : goal.take-requires
take-requires g c = let shows = shown _ _ c.in-Ok-Head.field-0-is c.in-Ok-Head.ensures.shows in omega (arith, shows.within, length-take 8192 (waiting c.read_head.new.self))

pub slice_bounds-copy_from_slice-end : goal.slice_bounds-copy_from_slice-end
slice_bounds-copy_from_slice-end g c = let shows = shown _ _ c.in-Ok-Head.field-0-is c.in-Ok-Head.ensures.shows in omega (arith, shows.within, length-take 8192 (waiting c.read_head.new.self))

pub copy_from_slice-requires : goal.copy_from_slice-requires
copy_from_slice-requires g c =
    let shows = shown _ _ c.in-Ok-Head.field-0-is c.in-Ok-Head.ensures.shows in
    let within = shows.within in
    let most = length-take 8192 (waiting c.read_head.new.self) in
    let long = ap length (c.taken.ensures ∙ c.take.ensures.taken) ∙ length-take-le c.in-Ok-Head.size (waiting c.read_head.new.self) (omega (arith, within, most)) in
    length-take-le c.in-Ok-Head.size c.args.text.now (omega (arith, within, most, c.told-text)) ∙ sym long

pub returns-in-Ok : goal.returns-in-Ok
returns-in-Ok g c =
    let waits = waiting c.read_head.new.self in
    let shows = shown _ _ c.in-Ok-Head.field-0-is c.in-Ok-Head.ensures.shows in
    let text : c.in-Ok.opening.text.now ≡ take c.in-Ok-Head.size waits =
    c.in-Ok.ensures.text ∙ text_copied waits _ _ _ c.in-Ok-Head.size shows c.copy_from_slice.ensures.after (c.taken.ensures ∙ c.take.ensures.taken) in
    let (small, head, tells) = c.in-Ok.ensures.ok in
    record {
      finds = (
        record {
          is_front = text_alone waits _ c.in-Ok-Head.size shows text;
          small = small;
          head = head;
          tells = subst (λ (t : List ℕ). HeadAnnounces t head c.in-Ok.opening.has_length c.in-Ok.opening.length) (sym c.in-Ok.ensures.text) tells;
        },
        opened _ _ waits _ _ c.in-Ok-Head.size shows text c.take.ensures.rest c.in-Ok-Head.ensures.kept,
      );
      parts = subst (λ (t : List ℕ). ArePartsOf t c.in-Ok.opening.head c.read_announcement.new.fields) (sym c.in-Ok.ensures.text) c.in-Ok.ensures.parts;
      room = c.take.ensures.room ∙ c.read_head.ensures.room;
      count = c.in-Ok-Head.ensures.count;
      free = λ h. (c.take.ensures.most ∙ (c.in-Ok-Head.ensures.free h).0, tt);
      spends = (subst (λ (o : Option ℕ). Spends c.args.backlog.now.most o (g.R.Read.remaining c.args.reader.now.inner) (g.R.Read.remaining c.read_head.new.reader.inner)) (sym c.take.ensures.most) c.in-Ok-Head.ensures.spends.0, tt);
    }

pub returns-in-Err-read_announcement : goal.returns-in-Err-read_announcement
returns-in-Err-read_announcement g c =
    let waits = waiting c.read_head.new.self in
    let shows = shown _ _ c.in-Ok-Head.field-0-is c.in-Ok-Head.ensures.shows in
    let text = text_copied waits _ _ _ c.in-Ok-Head.size shows c.copy_from_slice.ensures.after (c.taken.ensures ∙ c.take.ensures.taken) in
    let breaks = c.in-Err-read_announcement.ensures.err in
    record {
      finds = (
        (breaks_early _ c.in-Err-read_announcement.refusal breaks).0,
        (breaks_early _ c.in-Err-read_announcement.refusal breaks).1,
        barred _ _ waits _ _ c.in-Ok-Head.size c.in-Err-read_announcement.refusal shows text c.take.ensures.rest c.in-Ok-Head.ensures.kept breaks,
      );
      parts = tt;
      room = c.take.ensures.room ∙ c.read_head.ensures.room;
      count = c.in-Ok-Head.ensures.count;
      free = λ h. (c.take.ensures.most ∙ (c.in-Ok-Head.ensures.free h).0, tt);
      spends = (subst (λ (o : Option ℕ). Spends c.args.backlog.now.most o (g.R.Read.remaining c.args.reader.now.inner) (g.R.Read.remaining c.read_head.new.reader.inner)) (sym c.take.ensures.most) c.in-Ok-Head.ensures.spends.0, tt);
    }

pub returns-in-Ok-Refused : goal.returns-in-Ok-Refused
returns-in-Ok-Refused g c =
    let shows = shown _ _ c.in-Ok-Refused.field-0-is c.in-Ok-Refused.ensures.shows in
    record {
      finds = rw shows.0
          (lit< tt, lit≤ tt, of_whole _ _ (waiting c.read_head.new.self) (λ s. Next s (Refused rule.HeadTooLong) []) c.in-Ok-Refused.ensures.kept (λ rest. next_too_long _ rest shows.1 shows.2));
      parts = tt;
      room = c.read_head.ensures.room;
      count = c.in-Ok-Refused.ensures.count;
      free = λ h. ((c.in-Ok-Refused.ensures.free h).0, tt);
      spends = (c.in-Ok-Refused.ensures.spends.0, tt);
    }

pub returns-in-Ok-End : goal.returns-in-Ok-End
returns-in-Ok-End g c =
    let shows = shown _ _ c.in-Ok-End.field-0-is c.in-Ok-End.ensures.shows in
    record {
      finds = (shows.0, shows.1, of_end _ _ (waiting c.read_head.new.self) (λ s. Next s Ended []) c.in-Ok-End.ensures.kept shows.1 (next.ended shows.0));
      parts = tt;
      room = c.read_head.ensures.room;
      count = c.in-Ok-End.ensures.count;
      free = λ h. ((c.in-Ok-End.ensures.free h).0, tt);
      spends = (c.in-Ok-End.ensures.spends.0, tt);
    }

pub returns-in-Ok-Truncated : goal.returns-in-Ok-Truncated
returns-in-Ok-Truncated g c =
    let shows = shown _ _ c.in-Ok-Truncated.field-0-is c.in-Ok-Truncated.ensures.shows in
    record {
      finds = (shows.3, of_end _ _ (waiting c.read_head.new.self) (λ s. Next s Truncated []) c.in-Ok-Truncated.ensures.kept shows.3 (next_truncated _ shows.0 shows.1 shows.2));
      parts = tt;
      room = c.read_head.ensures.room;
      count = c.in-Ok-Truncated.ensures.count;
      free = λ h. ((c.in-Ok-Truncated.ensures.free h).0, tt);
      spends = (c.in-Ok-Truncated.ensures.spends.0, tt);
    }

pub returns-in-Err : goal.returns-in-Err
returns-in-Err g c =
    record {
      finds = finds_none c.in-Err.fault _ _ _ c.in-Err.ensures.fault (awaits_head _ c.in-Err.ensures.shows.0 c.in-Err.ensures.shows.1) c.in-Err.ensures.kept;
      parts = tt;
      room = c.read_head.ensures.room;
      count = counts_same (Step ℕ) (Step Opening) c.in-Err.fault _ _ c.in-Err.ensures.count;
      free = λ h. c.in-Err.ensures.free h;
      spends = c.in-Err.ensures.spends;
    }

pub shared_ref_as_front-read_announcement : goal.shared_ref_as_front-read_announcement
shared_ref_as_front-read_announcement g c = grind (arith, common_steps)
