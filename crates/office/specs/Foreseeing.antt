-- What is known of a request before its moment: everything except the window of its link and what its body
-- decides.
use Rattle.std.specs.Prelude.{◌≡◌, ◌≢◌, ◌≤◌, ℕ, List, length, IsFalse, Some, option_map, Result, Ok, Err, ⊤}
use Rattle.std.specs.FinMap.{get}
use Rattle.sigtext.specs.Bytes.{AreBytes}
use Rattle.sigtext.specs.Limits.{most_body}
use Rattle.sigtext.specs.declared.refusal.Refusal.{Refusal}
use Rattle.sigtext.specs.declared.refusal.Refusal.TheVariants as rule
use Rattle.sigtext.specs.Request.{Request}
use Rattle.sigtext.specs.Rules.{IsFirstToFail}
use Rattle.sigv4.specs.Hmac.{sha256}
use Rattle.links.specs.WellFormed.{LinkValues, IsWellFormed}
use Rattle.links.specs.Admits.{IsSignedBy}
use Rattle.links.specs.LinkReadings.{IsLinkOf}
use Rattle.boxes.specs.State.{Key, State}
use Rattle.boxes.specs.Rows.{settings_of}
use Rattle.boxes.specs.Rules.{PlaceRule}
use Rattle.boxes.specs.declared.keep.Keeper.{Ghosts}
use Rattle.office.specs.declared.requests.foreseeing.Errand.{Errand}
use Rattle.office.specs.declared.requests.foreseeing.Errand.TheVariants as errand
use Rattle.office.specs.declared.requests.foreseeing.Prospect.{Prospect}
use Rattle.office.specs.declared.requests.foreseeing.Body.{Body}
use Rattle.office.specs.Admitted.{IsAdmitted, ReachesBoxes}
use Rattle.sigtext.specs.Readable.{IsReadable}
use Rattle.office.specs.Rules.{IsPut, IsPost, IsFetch, Rule, place_of}

-- the request's link has these parts, and this key signed it, which exists and is not revoked
pub record IsSigned (s : State) (r : Request) (p : LinkValues) (k : Key) : Type 0 where
  pub well_formed : IsWellFormed r p
  pub there : get s.keys p.key_id ≡ Some k
  pub unrevoked : IsFalse k.revoked
  pub signed : IsSignedBy k.secret r p

-- the request is refused like this at any moment
abbrev pub IsAlwaysRefused : State → Request → Refusal → Type 0
IsAlwaysRefused s r q = (q ≢ rule.TryAgain) → (now : ℕ) → IsFirstToFail (Rule s r now) q

-- The errand is that of the request's method. For an upload, the box is that of the state, and the place
-- obeys rules 27 to 29.
abbrev pub IsErrandOf : State → Request → LinkValues → Errand → Type 0
IsErrandOf s r p (errand.Put path in_box) =
    IsPut r × (path.items ≡ p.path) × (option_map settings_of in_box ≡ get s.boxes (place_of p.path).box) × ((q : Refusal) → PlaceRule q s (place_of p.path))
IsErrandOf s r p errand.Fetch = IsFetch r
IsErrandOf s r p errand.Post = IsPost r

-- within the window of its link the request reaches the rules of its errand, or it is refused like this
abbrev pub ComesTo : State → Request → LinkValues → Key → Result Errand Refusal → Type 0
ComesTo s r p k (Ok e) = IsErrandOf s r p e × ((now : ℕ) → IsAdmitted s r now p k → ReachesBoxes s r now p)
ComesTo s r p k (Err q) = (q ≢ rule.TryAgain) → (now : ℕ) → IsAdmitted s r now p k → IsFirstToFail (Rule s r now) q

-- what was foreseen of a request that obeys rules 7 to 21
pub record IsForeseen (s : State) (r : Request) (f : Prospect) : Type 0 where
  pub parts : LinkValues
  pub link : IsLinkOf f.link r parts
  pub key : Key
  pub signed : IsSigned s r parts key
  pub comes : ComesTo s r parts key f.errand

-- the same, or the refusal that the request gets at any moment
abbrev pub Foresees : State → Request → Result Prospect Refusal → Type 0
Foresees s r (Ok f) = IsForeseen s r f
Foresees s r (Err q) = IsAlwaysRefused s r q

-- The link was read. If memory was refused for that, the request is readable.
abbrev pub IsReadOf : Request → Result Prospect Refusal → Type 0
IsReadOf r (Ok f) = (p : LinkValues) × IsLinkOf f.link r p
IsReadOf r (Err q) = q ≡ rule.TryAgain → IsReadable r

-- an upload, whose body is to be staged
abbrev pub IsPutting : Result Errand Refusal → Type 0
IsPutting (Ok (errand.Put path in_box)) = ⊤
IsPutting (Ok errand.Fetch) = ⊥
IsPutting (Ok errand.Post) = ⊥
IsPutting (Err q) = ⊥

abbrev pub IsUpload : Result Prospect Refusal → Type 0
IsUpload (Ok f) = IsPutting f.errand
IsUpload (Err q) = ⊥

-- the bytes are staged, and the body's length and digest are theirs
pub record AreStaged {K : Type 0} (k : Ghosts K) (keeper : K) (bytes : List ℕ) (b : Body) : Type 0 where
  pub staged : k.stages keeper bytes
  pub octets : AreBytes bytes
  pub short : length bytes ≤ most_body
  pub length_is : b.length ≡ length bytes
  pub digest : b.digest ≡ sha256 bytes
