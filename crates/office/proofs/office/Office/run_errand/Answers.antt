use Rattle.std.proofs.Common.{◌≡◌, ◌∙◌, Ok, Err, ap, inl, inr, refl, subst, sym}
use Rattle.office.specs.declared.requests.foreseeing.Errand.TheVariants as errand
use Rattle.office.specs.Foreseeing.{IsPutting}
use Rattle.office.proofs.Endurance.{refused_adds}
use Rattle.office.proofs.Foreseen.{errand_of, refused_of}
use Rattle.office.proofs.KeeperCalls.{on_err_too, quiet_still}
use Rattle.office.proofs.Replied.{replies_for, replies_refused}
use Rattle.office.proofs.office.Office.run_errand.Goals as goal

pub returns-in-Ok-Put-clause-replies : goal.returns-in-Ok-Put-clause-replies
returns-in-Ok-Put-clause-replies g c =
    let same : c.args.prospect.errand ≡ Ok (errand.Put c.in-Ok-Put.path c.in-Ok-Put.in_box) = c.in-Ok-Put.is ∙ ap Ok c.in-Ok-Put.field-0-is in
    replies_for
    (λ s r right.
    let (f, admitted, staged) = right in
    let x = errand_of s r c.args.prospect f c.args.now admitted (errand.Put c.in-Ok-Put.path c.in-Ok-Put.in_box) same in
    (f.parts, f.link, x.0.0, x.1, c.deref.ensures.value ∙ x.0.1, x.0.2, staged (subst IsPutting (sym same) tt)))
    c.put.ensures.replies

pub returns-in-Ok-Fetch-clause-replies : goal.returns-in-Ok-Fetch-clause-replies
returns-in-Ok-Fetch-clause-replies g c =
    let same : c.args.prospect.errand ≡ Ok errand.Fetch = c.in-Ok-Fetch.is ∙ ap Ok c.in-Ok-Fetch.field-0-is in
    let quiet = c.fetch.ensures.looks.quiet in
    record {
      replied = λ s r kept right.
          let (f, admitted, staged) = right in
          let x = errand_of s r c.args.prospect f c.args.now admitted errand.Fetch same in
          c.fetch.ensures.replies s r f.parts c.args.now kept f.link x.0 x.1;
      same = λ s means. on_err_too c.fetch.result (quiet.same s means);
      plain = c.fetch.ensures.plain;
      crash = λ s r kept right. refused_adds s r c.args.now c.fetch.result (quiet.crash s kept.means kept.is_honest);
      rest = quiet.rest;
    }

pub returns-in-Ok-Post-clause-replies : goal.returns-in-Ok-Post-clause-replies
returns-in-Ok-Post-clause-replies g c =
    let same : c.args.prospect.errand ≡ Ok errand.Post = c.in-Ok-Post.is ∙ ap Ok c.in-Ok-Post.field-0-is in
    replies_for
    (λ s r right.
    let (f, admitted, staged) = right in
    let x = errand_of s r c.args.prospect f c.args.now admitted errand.Post same in
    (f.parts, f.link, x.0, x.1))
    (c.post.ensures.replies c.args.now)

pub returns-clause-replies : goal.returns-clause-replies
returns-clause-replies g c =
    let same : c.args.prospect.errand ≡ Err c.in-Err.refusal = c.in-Err.is in
    replies_refused c.in-Err.refusal (Err c.in-Err.refusal) quiet_still (λ _. refl)
    (λ s r kept right other.
    let (f, admitted, staged) = right in
    refused_of s r c.args.prospect f c.args.now admitted c.in-Err.refusal same other)

pub returns-in-Ok-Fetch-clause-unstaged : goal.returns-in-Ok-Fetch-clause-unstaged
returns-in-Ok-Fetch-clause-unstaged g c (inl putting) =
    let same : c.args.prospect.errand ≡ Ok errand.Fetch = c.in-Ok-Fetch.is ∙ ap Ok c.in-Ok-Fetch.field-0-is in
    absurd (subst IsPutting same putting)
returns-in-Ok-Fetch-clause-unstaged g c (inr none) = inl (c.fetch.ensures.looks.staged _ none)

pub returns-in-Ok-Post-clause-unstaged : goal.returns-in-Ok-Post-clause-unstaged
returns-in-Ok-Post-clause-unstaged g c (inl putting) =
    let same : c.args.prospect.errand ≡ Ok errand.Post = c.in-Ok-Post.is ∙ ap Ok c.in-Ok-Post.field-0-is in
    absurd (subst IsPutting same putting)
returns-in-Ok-Post-clause-unstaged g c (inr none) = c.post.ensures.unstaged none

pub returns-clause-unstaged : goal.returns-clause-unstaged
returns-clause-unstaged g c (inl putting) =
    let same : c.args.prospect.errand ≡ Err c.in-Err.refusal = c.in-Err.is in
    absurd (subst IsPutting same putting)
returns-clause-unstaged g c (inr none) = inl none

pub returns-in-Ok-Put-clause-unstaged : goal.returns-in-Ok-Put-clause-unstaged
returns-in-Ok-Put-clause-unstaged g c = λ _. c.put.ensures.unstaged
