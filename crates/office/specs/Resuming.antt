-- Messages whose bodies come over several turns: what answers one whose body came whole.
use Rattle.std.specs.Prelude.{◌≡◌, ℕ, true, false}
use Rattle.sigtext.specs.Readable.{IsReadable}
use Rattle.sigtext.specs.Request.{Request}
use Rattle.sigtext.specs.declared.refusal.Refusal.TheVariants as rule
use Rattle.boxes.specs.State.{State}
use Rattle.boxes.specs.declared.keep.Keeper.{Ghosts}
use Rattle.wire.specs.declared.answer.Answer.{Answer}
use Rattle.office.specs.Crashes.{AddsStanding}
use Rattle.office.specs.Premise.{HoldsUp, IsLeft}
use Rattle.office.specs.Stepping.{HandlesBy}
use Rattle.office.specs.declared.connections.responding.Response.{Response}
use Rattle.office.specs.declared.connections.responding.Response.TheVariants as response

-- A message whose body came whole is handled, after calls that left the state unchanged. Or it is given up before
-- its moment is told.
pub data EndsWhole {C K : Type 0} (gives : C → ℕ → C → Type 0) (clock clock' : C) (k : Ghosts K) (keeper keeper' : K) (s : State) (r : Request) : Response → Type 0 where
  handled : (mid : K) (a : Answer) → HoldsUp k false keeper mid → AddsStanding k keeper mid s → HandlesBy gives clock clock' k mid keeper' s r a
      → EndsWhole gives clock clock' k keeper keeper' s r (response.Answer a)
  given_up : clock' ≡ clock → HoldsUp k true keeper keeper' → AddsStanding k keeper keeper' s → IsLeft (k.means keeper') s → IsReadable r
      → EndsWhole gives clock clock' k keeper keeper' s r (response.Close rule.TryAgain)
