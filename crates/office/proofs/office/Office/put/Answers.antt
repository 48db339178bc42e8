use Rattle.std.proofs.Common.{◌∙◌, Ok, arith, ap, sym, subst, refl}
use Rattle.std.specs.FinMap.{get}
use Rattle.sigtext.specs.declared.refusal.Refusal.TheVariants as rule
use Rattle.boxes.specs.State.{Place}
use Rattle.boxes.specs.Steps.{after_upload}
use Rattle.boxes.specs.Views.{IsUploadViewOf}
use Rattle.wire.specs.declared.answer.Reply.{Reply}
use Rattle.office.specs.Crashes.{Endures, unchanged}
use Rattle.office.specs.Premise.{IsGivenUp, WasKept}
use Rattle.office.specs.Replying.{IsReplied, IsNoRefusal}
use Rattle.office.specs.Rules.{place_of, upload_of}
use Rattle.office.proofs.Endurance.{asked_standing, refused_adds, then_replied, unset}
use Rattle.office.proofs.Foreseen.{told, gave_reply, kept_plain, receipt_plain}
use Rattle.office.proofs.Replies.{asks, brought, again, not_put, sets, set_replied}
use Rattle.office.proofs.Unstaged.{ends_later, rose_least, asked_holds}
use Rattle.office.proofs.Holding.{holds_then}
use Rattle.office.proofs.KeeperCalls.{on_err_too, quiet_answered, quiet_asked, quiet_then, quiet_via}
use Rattle.office.proofs.Replied.{replies_refused}
use Rattle.office.proofs.office.Office.put.Goals as goal

-- the keeper did not tell what is stored

pub returns-in_default-clause-replies : goal.returns-in_default-clause-replies
returns-in_default-clause-replies g c =
    replies_refused rule.TryAgain c.let_go.result
    (quiet_via (quiet_asked c.look_up.result c.look_up.ensures.rest) c.let_go.ensures.quiet (λ not fault. not (c.let_go.ensures.gives not)) (λ not given. not given)) c.let_go.ensures.gives
    (λ s r kept right other. absurd (other refl))

-- the upload is refused

pub returns-in-Refused-clause-replies : goal.returns-in-Refused-clause-replies
returns-in-Refused-clause-replies g c =
    replies_refused c.in-Refused.refusal c.let_go-in-Refused.result (quiet_then (quiet_answered c.in-Ok.ensures.rest) c.let_go-in-Refused.ensures.quiet) c.let_go-in-Refused.ensures.gives
    (λ s r kept right other.
    let (p, is, is_put, reached, path, box, staged) = right in
    let u = upload_of r c.args.now p in
    let means = g.K.Keeper.means c.look_up.new.self.keeper in
    let still : WasKept g.K.Keeper c.args.self.now.keeper c.look_up.new.self.keeper s =
    record { means = kept.means; is_honest = c.let_go-in-Refused.ensures.quiet.rest.honest kept.is_honest; sound = kept.sound } in
    let same = c.read_place-place.ensures ∙ ap place_of path in
    let brings = brought means s r c.args.now p reached staged.short staged.octets (omega (arith, c.well_formed)) in
    let view = subst (λ (x : Place). IsUploadViewOf s x c.in-Ok.field-0.view) same (c.in-Ok.ensures.view s still (box ∙ ap (λ (x : Place). get s.boxes x.box) (sym same))) in
    not_put means s r c.args.now p reached c.in-Refused.refusal is_put
    (c.in-Refused.ensures s u kept.sound brings view (record { length_is = staged.length_is; digest = staged.digest; stand = c.in-Ok.ensures.stand s u still (sym same) staged }) refl (sym (c.key_id.ensures r p is)) (sym same)))

-- its bytes are already stored

pub returns-in-Again-clause-replies : goal.returns-in-Again-clause-replies
returns-in-Again-clause-replies g c =
    let quiet = quiet_then {gave_up = IsGivenUp c.let_go-in-Again.result} (quiet_answered c.in-Ok.ensures.rest) c.let_go-in-Again.ensures.quiet in
    record {
      replied = λ s r kept right.
          let (p, is, is_put, reached, path, box, staged) = right in
          let u = upload_of r c.args.now p in
          let means = Endures g.K.Keeper c.args.self.now.keeper c.let_go-in-Again.new.self.keeper s in
          let still : WasKept g.K.Keeper c.args.self.now.keeper c.look_up.new.self.keeper s =
          record { means = kept.means; is_honest = c.let_go-in-Again.ensures.quiet.rest.honest kept.is_honest; sound = kept.sound } in
          let same = c.read_place-place.ensures ∙ ap place_of path in
          let brings = brought means s r c.args.now p reached staged.short staged.octets (omega (arith, c.well_formed)) in
          let view = subst (λ (x : Place). IsUploadViewOf s x c.in-Ok.field-0.view) same (c.in-Ok.ensures.view s still (box ∙ ap (λ (x : Place). get s.boxes x.box) (sym same))) in
          told means s r c.args.now c.reply_of-reply.result c.let_go-in-Again.result c.let_go-in-Again.ensures.gives
          (subst (λ (x : Reply). IsReplied means s r c.args.now (Ok x)) (sym c.reply_of-reply.ensures)
          (again means s r c.args.now p reached c.in-Again.receipt is_put
          (record { means = record { meant = quiet.same s kept.means; lasts = unchanged refl (quiet.crash s kept.means kept.is_honest) }; sound = kept.sound })
          (c.in-Again.ensures s u kept.sound brings view (record { length_is = staged.length_is; digest = staged.digest; stand = c.in-Ok.ensures.stand s u still (sym same) staged }) refl (sym (c.key_id.ensures r p is)) (sym same))));
      same = λ s means. on_err_too c.let_go-in-Again.result (quiet.same s means);
      plain = gave_reply IsNoRefusal c.reply_of-reply.result c.let_go-in-Again.result c.let_go-in-Again.ensures.gives (kept_plain c.reply_of-reply.result _ _ _ c.reply_of-reply.ensures);
      crash = λ s r kept right. refused_adds s r c.args.now c.let_go-in-Again.result (quiet.crash s kept.means kept.is_honest);
      rest = quiet.rest;
    }

-- the upload is taken

pub returns-in-Taken-clause-replies : goal.returns-in-Taken-clause-replies
returns-in-Taken-clause-replies g c = record {
  replied = λ s r kept right.
      let (p, is, is_put, reached, path, box, staged) = right in
      let u = upload_of r c.args.now p in
      let means = Endures g.K.Keeper c.look_up.new.self.keeper c.set_file-reply.new.self.keeper s in
      let still : WasKept g.K.Keeper c.args.self.now.keeper c.look_up.new.self.keeper s =
      record { means = kept.means; is_honest = c.set_file-reply.ensures.rest.honest kept.is_honest; sound = kept.sound } in
      let same = c.read_place-place.ensures ∙ ap place_of path in
      let brings = brought means s r c.args.now p reached staged.short staged.octets (omega (arith, c.well_formed)) in
      let view = subst (λ (x : Place). IsUploadViewOf s x c.in-Ok.field-0.view) same (c.in-Ok.ensures.view s still (box ∙ ap (λ (x : Place). get s.boxes x.box) (sym same))) in
      let decided = c.in-Taken.ensures s u kept.sound brings view (record { length_is = staged.length_is; digest = staged.digest; stand = c.in-Ok.ensures.stand s u still (sym same) staged }) refl (sym (c.key_id.ensures r p is)) (sym same) in
      let file_set = sets means s r c.args.now p reached c.in-Taken.file brings decided in
      then_replied c.set_file-reply.new.self.keeper s r c.args.now c.set_file-reply.result
      (asked_standing c.in-Ok.ensures.rest kept.means (c.set_file-reply.ensures.rest.honest kept.is_honest))
      (set_replied means s r c.args.now p reached c.in-Taken.file c.set_file-reply.result is_put decided c.set_file-reply.ensures.receipt c.set_file-reply.ensures.again
      (c.set_file-reply.ensures.sets s (after_upload s u) r.body (record { means = c.in-Ok.ensures.rest.same s kept.means; is_honest = kept.is_honest; sound = kept.sound })
      (c.in-Ok.ensures.staged r.body staged.staged) file_set));
  same = λ s means. c.set_file-reply.ensures.same s (c.in-Ok.ensures.rest.same s means);
  plain = receipt_plain c.in-Taken.file c.set_file-reply.result c.set_file-reply.ensures.receipt;
  crash = λ s r kept right.
      let (p, is, is_put, reached, path, box, staged) = right in
      let u = upload_of r c.args.now p in
      let means = g.K.Keeper.means c.look_up.new.self.keeper in
      let still : WasKept g.K.Keeper c.args.self.now.keeper c.look_up.new.self.keeper s =
      record { means = kept.means; is_honest = c.set_file-reply.ensures.rest.honest kept.is_honest; sound = kept.sound } in
      let same = c.read_place-place.ensures ∙ ap place_of path in
      let brings = brought means s r c.args.now p reached staged.short staged.octets (omega (arith, c.well_formed)) in
      let view = subst (λ (x : Place). IsUploadViewOf s x c.in-Ok.field-0.view) same (c.in-Ok.ensures.view s still (box ∙ ap (λ (x : Place). get s.boxes x.box) (sym same))) in
      let decided = c.in-Taken.ensures s u kept.sound brings view (record { length_is = staged.length_is; digest = staged.digest; stand = c.in-Ok.ensures.stand s u still (sym same) staged }) refl (sym (c.key_id.ensures r p is)) (sym same) in
      let file_set = sets means s r c.args.now p reached c.in-Taken.file brings decided in
      unset c.set_file-reply.new.self.keeper s (after_upload s u) r c.args.now c.set_file-reply.result
      (asked_standing c.in-Ok.ensures.rest kept.means (c.set_file-reply.ensures.rest.honest kept.is_honest))
      (c.set_file-reply.ensures.crash s (after_upload s u) r.body (record { means = c.in-Ok.ensures.rest.same s kept.means; is_honest = kept.is_honest; sound = kept.sound })
      (c.in-Ok.ensures.staged r.body staged.staged) file_set)
      c.set_file-reply.ensures.again (asks means s r c.args.now p reached c.in-Taken.file is_put decided);
  rest = holds_then (asked_holds g.K.Keeper _ _ _ c.in-Ok.ensures.rest) c.set_file-reply.ensures.rest;
}

pub returns-in_default-clause-unstaged : goal.returns-in_default-clause-unstaged
returns-in_default-clause-unstaged g c = ends_later g.K.Keeper c.args.self.now.keeper c.look_up.new.self.keeper c.let_go.new.self.keeper (rose_least _ _ c.in_default.ensures.rest.count.err) c.let_go.ensures.unstaged

pub returns-in-Refused-clause-unstaged : goal.returns-in-Refused-clause-unstaged
returns-in-Refused-clause-unstaged g c = ends_later g.K.Keeper c.args.self.now.keeper c.look_up.new.self.keeper c.let_go-in-Refused.new.self.keeper (omega (arith, c.in-Ok.ensures.rest.count.ok)) c.let_go-in-Refused.ensures.unstaged

pub returns-in-Again-clause-unstaged : goal.returns-in-Again-clause-unstaged
returns-in-Again-clause-unstaged g c = ends_later g.K.Keeper c.args.self.now.keeper c.look_up.new.self.keeper c.let_go-in-Again.new.self.keeper (omega (arith, c.in-Ok.ensures.rest.count.ok)) c.let_go-in-Again.ensures.unstaged

pub returns-in-Taken-clause-unstaged : goal.returns-in-Taken-clause-unstaged
returns-in-Taken-clause-unstaged g c = ends_later g.K.Keeper c.args.self.now.keeper c.look_up.new.self.keeper c.set_file-reply.new.self.keeper (omega (arith, c.in-Ok.ensures.rest.count.ok)) c.set_file-reply.ensures.unstaged
