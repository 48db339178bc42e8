-- Feeds that are resumed for a turn, and set aside after it.
use Rattle.std.proofs.Common.{◌≡◌, ◌∙◌, ◌++◌, ℕ, List, [], Option, None, Some, sym, ap, subst, take}
use Rattle.std.specs.Prelude.{◌≤◌}
use Rattle.std.specs.Io.KnownBytes.{Keeps, prepend_known}
use Rattle.std.specs.Option.{ForSome}
use Rattle.std.proofs.KnownBytes.{Keeps-refl, prepend_known-nil}
use Rattle.sigtext.specs.Limits.{most_head}
use Rattle.boxes.specs.State.{State}
use Rattle.boxes.specs.declared.keep.Keeper.{Ghosts}
use Rattle.wire.specs.Feeding.{Awaits, AwaitsHead, a_head}
use Rattle.wire.specs.Feeds.{TakesAllIn, ahead_of, given_before, given_of, left, place_of, reader_of, resumed_at, stood_at, waits_in, whole_left}
use Rattle.wire.specs.Seats.{came_behind, left_behind}
use Rattle.wire.specs.Waiting.{TakesAll}
use Rattle.wire.specs.Underways.{IsBegun, IsUnderway, head_of}
use Rattle.wire.specs.declared.counted.Counted.{Counted}
use Rattle.wire.specs.declared.feed.Feed.{Feed}
use Rattle.wire.specs.declared.feed.Place.{Place}
use Rattle.wire.specs.declared.feed.Place.TheVariants as place
use Rattle.wire.specs.declared.standing.Standing.{Standing}
use Rattle.wire.specs.declared.underway.Kept.{Kept}
use Rattle.wire.specs.declared.underway.Underway.{Underway}
use Rattle.wire.proofs.Ties.{none_is, some_is}
use Rattle.office.proofs.Told.{if_answer}
use Rattle.office.specs.Responding.{IfAnswer, TellsReading}
use Rattle.office.specs.Seats.{LacksRest}
use Rattle.office.specs.Stepping.{AwaitsMore, StepsBy, WaitsBehind, WaitsIn}
use Rattle.office.specs.declared.connections.responding.Response.{Response}
use Rattle.office.specs.declared.connections.responding.Response.TheVariants as response
use Rattle.office.specs.declared.connections.stepping.Begun.{Begun}
use Rattle.office.specs.declared.connections.turning.Turn.TheVariants as turn

-- nothing was given of an open body
pub behind_none : (standing : Standing) (reader : Option (List ℕ)) → given_before standing ≡ [] → left_behind None standing reader ≡ prepend_known (ahead_of standing) reader
behind_none standing reader none =
    let rest = prepend_known (ahead_of standing) reader in
    prepend_known-nil (prepend_known (given_before standing) rest) ∙ ap (λ (l : List ℕ). prepend_known l rest) none ∙ prepend_known-nil rest

-- a feed, and one that was set aside with this reader, have the same bytes
pub record HasSame {R : Type 0} (feed : Feed R) (standing : Standing) (reader : Counted R) : Type 0 where
  pub ahead : waits_in feed ≡ ahead_of standing
  pub given : given_of feed ≡ given_before standing
  pub read_by : reader_of feed ≡ reader

module _ {R : Type 0} (remaining : R → Option (List ℕ)) {feed : Feed R} {standing : Standing} {reader : Counted R} (x : HasSame feed standing reader) where
  left_aside : left remaining feed ≡ prepend_known (ahead_of standing) (remaining reader.inner)
  left_aside =
      ap (λ (l : List ℕ). prepend_known l (remaining (reader_of feed).inner)) x.ahead
      ∙ ap (λ (r : Counted R). prepend_known (ahead_of standing) (remaining r.inner)) x.read_by

  -- between two messages
  pub none_aside : given_of feed ≡ [] → left remaining feed ≡ left_behind None standing (remaining reader.inner)
  none_aside none = left_aside ∙ sym (behind_none standing (remaining reader.inner) (sym x.given ∙ none))

  -- within a body whose head is this text
  begun_aside : (text : List ℕ) → prepend_known text (whole_left remaining feed) ≡ prepend_known text (prepend_known (given_before standing) (prepend_known (ahead_of standing) (remaining reader.inner)))
  begun_aside text =
      ap (prepend_known text)
      (ap (λ (l : List ℕ). prepend_known l (left remaining feed)) x.given ∙ ap (prepend_known (given_before standing)) left_aside)

  pub keeps_none : (known : Option (List ℕ)) → given_of feed ≡ [] → Keeps known (left remaining feed) → Keeps known (left_behind None standing (remaining reader.inner))
  keeps_none known none keeps = subst (Keeps known) (none_aside none) keeps

  pub keeps_begun : (known : Option (List ℕ)) (text : List ℕ) → Keeps known (prepend_known text (whole_left remaining feed))
      → Keeps known (prepend_known text (prepend_known (given_before standing) (prepend_known (ahead_of standing) (remaining reader.inner))))
  keeps_begun known text keeps = subst (Keeps known) (begun_aside text) keeps

  -- a feed that was resumed has the bytes of the message under way
  pub keeps_resumed : (u : Underway) → Keeps (left_behind (Some u) standing (remaining reader.inner)) (prepend_known (head_of u) (whole_left remaining feed))
  keeps_resumed u =
      subst (λ (known : Option (List ℕ)). Keeps known (prepend_known (head_of u) (whole_left remaining feed))) (begun_aside (head_of u)) (Keeps-refl (prepend_known (head_of u) (whole_left remaining feed)))

-- a message is under way in the feed that was set aside
pub underway_aside : {R : Type 0} (feed : Feed R) (standing : Standing) (u : Underway) → stood_at standing ≡ place_of feed → given_of feed ≡ given_before standing
    → IsBegun (head_of u) u.size u.kept (place_of feed) (given_of feed) → IsUnderway u standing
underway_aside feed standing u here given is =
    subst (λ (p : Place). IsBegun (head_of u) u.size u.kept p (given_before standing)) (sym here)
    (subst (λ (l : List ℕ). IsBegun (head_of u) u.size u.kept (place_of feed) l) given is)

-- the same for a message that has just begun, and whose head is at the front of the block
pub begun_aside_as : {R : Type 0} (feed : Feed R) (standing : Standing) (block : List ℕ) (b : Begun) (u : Underway) → u.text.value ≡ block → u.len ≡ b.len → u.size ≡ b.size → u.kept ≡ b.kept
    → stood_at standing ≡ place_of feed → given_of feed ≡ given_before standing → IsBegun (take b.len block) b.size b.kept (place_of feed) (given_of feed) → IsUnderway u standing
begun_aside_as feed standing block b u text len size kept here given is =
    let head : take b.len block ≡ head_of u = ap (λ (n : ℕ). take n block) (sym len) ∙ ap (take u.len) (sym text) in
    underway_aside feed standing u here given
    (subst (λ (x : List ℕ). IsBegun x u.size u.kept (place_of feed) (given_of feed)) head
    (subst (λ (n : ℕ). IsBegun (take b.len block) n u.kept (place_of feed) (given_of feed)) (sym size)
    (subst (λ (o : Option Kept). IsBegun (take b.len block) b.size o (place_of feed) (given_of feed)) (sym kept) is)))

-- a body that is open is open in a feed that is resumed
pub resumed_begun : (head : List ℕ) (u : Underway) (p q : Place) (l m : List ℕ) → p ≡ resumed_at q → l ≡ m → IsBegun head u.size u.kept q m → IsBegun head u.size u.kept p l
resumed_begun head u p q l m here given is =
    subst (λ (l : List ℕ). IsBegun head u.size u.kept p l) (sym given)
    (subst (λ (p : Place). IsBegun head u.size u.kept p m) (sym (here ∙ ap resumed_at is.stands ∙ sym is.stands)) is)

-- ---- a step that is done

module _ {C K R : Type 0} (gives : C → ℕ → C → Type 0) (remaining : R → Option (List ℕ)) {feed : Feed R} {reader : Counted R} (clock clock' : C) (k : Ghosts K) (keeper keeper' : K) (s : State) where
  pub turn_done : (known : Option (List ℕ)) (standing : Standing) (x : Response) → HasSame feed standing reader → IfAnswer x (given_of feed ≡ [])
      → StepsBy gives place.Between known (left remaining feed) (remaining (reader_of feed).inner) clock clock' k keeper keeper' s x
      → StepsBy gives place.Between known (left_behind None standing (remaining reader.inner)) (remaining reader.inner) clock clock' k keeper keeper' s x
  turn_done known standing (response.Answer y) same none steps =
      subst (λ (r : Counted R). StepsBy gives place.Between known (left_behind None standing (remaining reader.inner)) (remaining r.inner) clock clock' k keeper keeper' s (response.Answer y)) same.read_by
      (subst (λ (l : Option (List ℕ)). StepsBy gives place.Between known l (remaining (reader_of feed).inner) clock clock' k keeper keeper' s (response.Answer y)) (none_aside remaining same none) steps)
  turn_done known standing (response.Close q) same none steps =
      subst (λ (r : Counted R). StepsBy gives place.Between known (left remaining feed) (remaining r.inner) clock clock' k keeper keeper' s (response.Close q)) same.read_by steps
  turn_done known standing response.Ended same none steps =
      subst (λ (r : Counted R). StepsBy gives place.Between known (left remaining feed) (remaining r.inner) clock clock' k keeper keeper' s response.Ended) same.read_by steps
  turn_done known standing response.Truncated same none steps =
      subst (λ (r : Counted R). StepsBy gives place.Between known (left remaining feed) (remaining r.inner) clock clock' k keeper keeper' s response.Truncated) same.read_by steps
  turn_done known standing response.ReadFault same none steps =
      subst (λ (r : Counted R). StepsBy gives place.Between known (left remaining feed) (remaining r.inner) clock clock' k keeper keeper' s response.ReadFault) same.read_by steps

pub stands_done : {R : Type 0} (feed : Feed R) (standing : Standing) (underway : Option Underway) (x : Response) → underway ≡ None → stood_at standing ≡ place_of feed → given_of feed ≡ given_before standing
    → IfAnswer x ((place_of feed ≡ place.Between) × (given_of feed ≡ [])) → (underway ≡ None) × IfAnswer x ((stood_at standing ≡ place.Between) × (given_before standing ≡ []))
stands_done feed standing underway x none here given goes = (none, if_answer x (λ (at : (place_of feed ≡ place.Between) × (given_of feed ≡ [])). (here ∙ at.0, sym given ∙ at.1)) goes)

-- the faults of reading, with equal readers
pub tells_done : {R : Type 0} (x : Response) (a a' b b' : Counted R) → a ≡ a' → b ≡ b' → TellsReading x a b → TellsReading x a' b'
tells_done {R = R} x a a' b b' ea eb tells = subst (λ (r : Counted R). TellsReading x r b') ea (subst (λ (r : Counted R). TellsReading x a r) eb tells)

pub tells_waits : {R : Type 0} (a a' b b' : Counted R) → a ≡ a' → b ≡ b' → b.faults ≡ a.faults → b'.faults ≡ a'.faults
tells_waits {R = R} a a' b b' ea eb tells = subst (λ (r : Counted R). b'.faults ≡ r.faults) ea (subst (λ (r : Counted R). r.faults ≡ a.faults) eb tells)

-- it did not only read on
pub done_not_waits : {P : Type 0} (x : Response) → turn.Done x ≡ turn.ReadOn → P
done_not_waits x is = absurd cc

-- ---- a step that waits

-- more bytes of the body are needed
pub awaits_aside : {R : Type 0} (feed : Feed R) (standing : Standing) (u : Underway) → given_of feed ≡ given_before standing → waits_in feed ≡ ahead_of standing → AwaitsMore (head_of u) feed
    → LacksRest (Some u) standing
awaits_aside feed standing u given ahead more = record {
  awaits =
      subst (λ (l : List ℕ). ∥ Awaits (head_of u ++ (l ++ ahead_of standing)) ∥₁) given
      (subst (λ (l : List ℕ). ∥ Awaits (head_of u ++ (given_of feed ++ l)) ∥₁) ahead more.1);
  head = λ none. absurd (none_is u (sym none));
  body = λ v at. sym ahead ∙ more.0;
}

-- more bytes of the head are needed
awaits_none : {R : Type 0} (feed : Feed R) (standing : Standing) → given_before standing ≡ [] → waits_in feed ≡ ahead_of standing → AwaitsHead (waits_in feed) → LacksRest None standing
awaits_none feed standing given ahead head =
    let all : AwaitsHead (came_behind None standing) = subst (λ (l : List ℕ). AwaitsHead (l ++ ahead_of standing)) (sym given) (subst AwaitsHead ahead head) in
    record { awaits = ∣ a_head all ∣₁; head = λ _. all; body = λ u is. absurd (none_is u is) }

-- it has taken all the bytes that it may read
pub all_aside : {R : Type 0} (remaining : R → Option (List ℕ)) (first last : Feed R) (most : Option ℕ) (old new : Counted R) → first.backlog.most ≡ most → reader_of first ≡ old → reader_of last ≡ new
    → TakesAllIn remaining first last → TakesAll most (remaining old.inner) (remaining new.inner)
all_aside {R = R} remaining first last most old new is before after all =
    subst (λ (r : Counted R). TakesAll most (remaining old.inner) (remaining r.inner)) after
    (subst (λ (r : Counted R). TakesAll most (remaining r.inner) (remaining (reader_of last).inner)) before
    (subst (λ (o : Option ℕ). TakesAll o (remaining (reader_of first).inner) (remaining (reader_of last).inner)) is all))

-- between two messages
pub stands_none : {R : Type 0} (feed : Feed R) (standing : Standing) (underway : Option Underway) → underway ≡ None → stood_at standing ≡ place_of feed → given_of feed ≡ given_before standing → waits_in feed ≡ ahead_of standing
    → (place_of feed ≡ place.Between) × (given_of feed ≡ []) × AwaitsHead (waits_in feed)
    → (underway ≡ None → (stood_at standing ≡ place.Between) × (given_before standing ≡ [])) × ForSome underway (λ u. IsUnderway u standing) × LacksRest underway standing
stands_none feed standing underway none here given ahead goes = (
  λ _. (here ∙ goes.0, sym given ∙ goes.1),
  λ u is. absurd (none_is u (sym none ∙ is)),
  subst (λ (o : Option Underway). LacksRest o standing) (sym none) (awaits_none feed standing (sym given ∙ goes.1) ahead goes.2),
)

-- within a body
pub stands_begun : (standing : Standing) (u : Underway) → IsUnderway u standing → LacksRest (Some u) standing
    → (Some u ≡ None → (stood_at standing ≡ place.Between) × (given_before standing ≡ [])) × ForSome (Some u) (λ v. IsUnderway v standing) × LacksRest (Some u) standing
stands_begun standing u begun more = (λ none. absurd (none_is u (sym none)), λ v at. subst (λ (w : Underway). IsUnderway w standing) (some_is u v at) begun, more)

pub none_there : {R : Type 0} (feed : Feed R) (block : List ℕ) (o : Option Begun) → o ≡ None → WaitsBehind feed block o → (place_of feed ≡ place.Between) × (given_of feed ≡ []) × AwaitsHead (waits_in feed)
none_there feed block o is waits = subst (λ (x : Option Begun). WaitsBehind feed block x) is waits

pub begun_there : {R : Type 0} (feed : Feed R) (block : List ℕ) (o : Option Begun) (b : Begun) → o ≡ Some b → WaitsBehind feed block o
    → (b.len ≤ most_head) × WaitsIn feed (take b.len block) b.size b.kept
begun_there feed block o b is waits = subst (λ (x : Option Begun). WaitsBehind feed block x) is waits
