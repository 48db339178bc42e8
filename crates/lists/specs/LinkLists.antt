-- Lists of links.
use Rattle.std.specs.Prelude.{◌≡◌, ◌≢◌, ℕ, ◌≤◌, List, [], ◌∷◌, ◌++◌, length, codes}
use Rattle.sigtext.specs.Bytes.{IsWord, is_visible}
use Rattle.sigv4.specs.Credential.{IsKeyId, IsRegion, IsSecret}
use Rattle.sigv4.specs.Dates.{WritesMoment}
use Rattle.boxes.specs.Rules.{IsName}
use Rattle.boxes.specs.Sound.{IsBoxName}
use Rattle.links.specs.Forms.{IsExpiry}
use Rattle.links.specs.Methods.{method_text}
use Rattle.links.specs.Orders.{Terms, IsLinkFor}
use Rattle.links.specs.declared.methods.Method.{Method}
use Rattle.links.specs.declared.methods.Method.TheVariants.{Post}
use Rattle.links.specs.declared.orders.LinkKey.{LinkKey}
use Rattle.lists.specs.Lists.{line}
use Rattle.lists.specs.declared.link_lists.Wish as code

abbrev pub links_head : List (List ℕ)
links_head = codes "method" ∷ codes "box" ∷ codes "name" ∷ codes "start" ∷ codes "expires" ∷ []

abbrev pub written_links_head : List (List ℕ)
written_links_head = links_head ++ codes "link" ∷ []

-- who signs, and for which host
pub record Signing : Type 0 where
  pub key_id : List ℕ
  pub secret : List ℕ
  pub host : List ℕ
  pub region : List ℕ

abbrev pub signing_of : LinkKey → List ℕ → List ℕ → Signing
signing_of key host region = record { key_id = key.id.now; secret = key.secret.now; host = host; region = region }

-- each of them is well formed
pub record CanSign (g : Signing) : Type 0 where
  pub host : IsWord is_visible 255 g.host
  pub region : IsRegion g.region
  pub key_id : IsKeyId g.key_id
  pub secret : IsSecret g.secret

-- a link to write
pub record Wish : Type 0 where
  pub method : Method
  pub box : List ℕ
  pub name : List ℕ
  pub start : ℕ  -- in seconds since 1970
  pub expires : ℕ  -- in seconds

abbrev pub wish_of : code.Wish → Wish
wish_of w = record { method = w.method; box = w.in_box.now; name = w.name.now; start = w.start; expires = w.expires }

-- the record asks for this link
pub record IsWish (fields : List (List ℕ)) (w : Wish) : Type 0 where
  pub start : List ℕ
  pub expires : List ℕ
  pub files : w.method ≢ Post
  pub box : IsBoxName w.box
  pub name : IsName w.name
  pub short : length w.name ≤ 1024
  pub is_start : WritesMoment start w.start
  pub is_expires : IsExpiry expires w.expires
  pub are : fields ≡ method_text w.method ∷ w.box ∷ w.name ∷ start ∷ expires ∷ []

abbrev pub IsLinkRow : List (List ℕ) → Type 0
IsLinkRow fields = (w : Wish) × IsWish fields w

-- a link to the file `name` of the box: the path is `/box/name`
abbrev pub terms : Signing → Wish → Terms
terms g w = record {
  method = method_text w.method;
  path = 47 ∷ w.box ++ 47 ∷ w.name;
  params = [];
  headers = [];
  start = w.start;
  expires = w.expires;
  key_id = g.key_id;
  secret = g.secret;
  host = g.host;
  region = g.region;
}

-- the whole text of a wanted link: `http://`, the host and the target
abbrev pub IsLinkText : Signing → Wish → List ℕ → Type 0
IsLinkText g w text = (target : List ℕ) × IsLinkFor (terms g w) target × (text ≡ codes "http://" ++ g.host ++ target)

-- the record followed by the whole text of its link
abbrev pub IsLinkLine : Signing → List (List ℕ) → List ℕ → Type 0
IsLinkLine g fields text = (w : Wish) × (target : List ℕ) × IsWish fields w × IsLinkFor (terms g w) target
    × (text ≡ line (fields ++ (codes "http://" ++ g.host ++ target) ∷ []))
