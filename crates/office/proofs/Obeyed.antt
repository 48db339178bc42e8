-- The reply to a message to the desk, by the result of its line.
use Rattle.std.proofs.Common.{◌≡◌, ℕ, List, [], ◌∷◌, codes, Ok, refl, sym, ap, subst, ◌∙◌}
use Rattle.sigtext.specs.declared.refusal.Refusal.TheVariants as rule
use Rattle.sigtext.specs.Request.{Request}
use Rattle.sigtext.specs.Rules.{IsFirstToFail}
use Rattle.sigtext.specs.Target.{Param}
use Rattle.links.specs.WellFormed.{LinkValues, HasValue}
use Rattle.boxes.specs.Changes.{IsObeyed}
use Rattle.boxes.specs.State.{State}
use Rattle.boxes.specs.Steps.{Command}
use Rattle.boxes.specs.Steps as step
use Rattle.wire.specs.declared.answer.Reply.TheVariants as reply
use Rattle.office.specs.Admitted.{ReachesBoxes}
use Rattle.office.specs.Answering.{post}
use Rattle.office.specs.Crashes.{IsAsked, IsToldBy}
use Rattle.office.specs.DeskLines.{IsDeskLine, IsNoDeskLine, IsImpossibleLine}
use Rattle.office.specs.Premise.{IsLeft}
use Rattle.office.specs.Replying.{IsReplied}
use Rattle.office.specs.Rules.{IsPost, Asks, Rule}
use Rattle.office.proofs.Deciding.{no_command, no_possible, holds_post}

pub same_value : (params : List Param) (name a b : List ℕ) → HasValue params name a → HasValue params name b → b ≡ a
same_value params name a b x y = only (sym x ∙ y)
  where
    first : (x y : Param) → x ∷ [] ≡ y ∷ [] → y ≡ x
    first x y e = cc

    only : ◌≡◌ {A = List Param} (record { name = name; value = a } ∷ []) (record { name = name; value = b } ∷ []) → b ≡ a
    only e = ap (λ (q : Param). q.value) (first _ _ e)

module _ (means : State → Type 0) (s : State) (r : Request) (now : ℕ) (p : LinkValues) (reached : ReachesBoxes s r now p) (is_post : IsPost r) where
  module _ (line : List ℕ) (at : p.path ≡ 47 ∷ []) (given : HasValue p.params (codes "desk") line) where
    asks : (command : Command) → IsDeskLine line command → Asks p command
    asks command tells = record { at_desk = at; text = line; given = given; is_command = tells.is_command; form = tells.form }

    tells : (command : Command) → Asks p command → IsDeskLine line command
    tells command asked =
        subst (λ (t : List ℕ). IsDeskLine t command) (same_value p.params (codes "desk") line asked.text given asked.given)
        (record { is_command = asked.is_command; form = asked.form })

    -- the state after the line
    pub asked_by : (after : State) → IsToldBy s line after → IsAsked s r now after
    asked_by after told =
        let asked = asks told.command told.tells in
        record { reply = step.Done; accepts = post p told.command after (holds_post s r now p reached is_post told.command asked told.obeyed.possible) is_post asked told.obeyed.step }

    pub obeyed : (command : Command) (after : State) → IsDeskLine line command → IsObeyed s command after → IsLeft means after → IsReplied means s r now (Ok reply.Done)
    unfolding asked_by
    obeyed command after told does left =
        let asked = asked_by after (record { command = command; tells = told; obeyed = does }) in
        (asked.reply, after, asked.accepts, left, refl)

    pub no_line : IsNoDeskLine line → IsFirstToFail (Rule s r now) rule.CommandMalformed
    no_line none = no_command s r now p reached is_post (λ command asked. none command (tells command asked))

    pub not_obeyed : IsImpossibleLine s line → IsFirstToFail (Rule s r now) rule.CommandNotPossible
    not_obeyed told = no_possible s r now p reached is_post told.command (asks told.command told.tells) (λ other asked. told.none other (tells other asked))

  -- the path is another, or no command is given
  pub elsewhere : (p.path ≡ 47 ∷ [] → ⊥) → IsFirstToFail (Rule s r now) rule.CommandMalformed
  elsewhere other = no_command s r now p reached is_post (λ command asked. other asked.at_desk)

  pub not_given : ((value : List ℕ) → HasValue p.params (codes "desk") value → ⊥) → IsFirstToFail (Rule s r now) rule.CommandMalformed
  not_given none = no_command s r now p reached is_post (λ command asked. none asked.text asked.given)
