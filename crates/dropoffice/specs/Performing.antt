-- What a command does to the office file that its words name. Done: it succeeded, or more.
use Rattle.std.specs.Prelude.{◌≡◌, ◌⊎◌, ◌++◌, ℕ, pos, neg_ℤ, ◌-ℤ◌, ◌≤ℤ◌, List, [], length, codes, Option, Some, ⊤}
use Rattle.std.specs.declared.net.socket_addr.SocketAddrV4.{SocketAddrV4}
use Rattle.clap.specs.Faults.{fault_of}
use Rattle.clap.specs.declared.error.kind.ErrorKind.{ErrorKind}
use Rattle.sqlite_disk.specs.declared.Disk as disk
use Rattle.sqlite.specs.Effect.{IsDatabase}
use Rattle.sqlite.specs.Files.{HoldsDatabase, AreFoundIn}
use Rattle.sqlite.specs.Recovery.{Image}
use Rattle.sqlite.specs.Tree.{Trees}
use Rattle.sigv4.specs.Credential.{IsKeyId, IsSecret}
use Rattle.sigv4.specs.Dates.{WritesMoment}
use Rattle.boxes.specs.FirstState.{first_state}
use Rattle.boxes.specs.State.{State as Office}
use Rattle.boxes.specs.declared.rows.OfficeRow.{OfficeRow}
use Rattle.sqltables.specs.Schema.{s0}
use Rattle.sockets.specs.Listening.{Event}
use Rattle.sockets.specs.declared.preparing.Limits.{Limits}
use Rattle.tasks.specs.Tasks.{IsFaultOf, IsTaskOf, drop_app}
use Rattle.tasks.specs.declared.task.Task.{Task}
use Rattle.tasks.specs.declared.task.Task.TheVariants as task
use Rattle.tasks.specs.declared.task.Desk.{Desk}
use Rattle.tasks.specs.declared.task.Init.{Init}
use Rattle.tasks.specs.declared.task.Listing.{Listing}
use Rattle.tasks.specs.declared.task.Replay.{Replay}
use Rattle.tasks.specs.declared.task.Secret.{Secret}
use Rattle.tasks.specs.declared.task.Serve.{Serve}
use Rattle.tasks.specs.declared.task.Secret.TheVariants as secret
use Rattle.wire.specs.declared.gathered.Gathered.{Gathered}
use Rattle.wire.specs.declared.outbox.Outbox.{Outbox}
use Rattle.commands.specs.Asking.{Asked}
use Rattle.commands.specs.Listing.{Compares, IsListOf, IsManifest, Looks, Writes, stock_name}
use Rattle.commands.specs.Obeying.{IsCommandOf, TellsLine, done_line}
use Rattle.commands.specs.Replaying.{ReplaysAll, ReplaysNew}
use Rattle.commands.specs.Saying.{HandsBack, Says}
use Rattle.commands.specs.Serving.{MayServe, NeverListens}
use Rattle.commands.specs.Wording.{IsNumber, IsServiceOf}
use Rattle.commands.specs.declared.serving.Ending.{Ending}
use Rattle.commands.specs.declared.serving.Ending.TheVariants as ending_of
use Rattle.commands.specs.declared.listing.Stock.{Stock}
use Rattle.dropoffice.specs.Holding.{HoldsEither, HoldsState, LeavesHeld, ShowsHeld}
use Rattle.dropoffice.specs.Leaving.{IsClosed, IsLooked, IsSpared, LeavesOffice, MayCrashTo, Migrated, Ran}
use Rattle.dropoffice.specs.declared.left.Left.{Left}
use Rattle.dropoffice.specs.declared.left.Left.TheVariants as left

-- The command ran. Or it failed before its work began, and what is left of the files was spared. Idle: what is known then.
abbrev pub MayRun : {F D : Type 0} {g : disk.Ghosts D} → Image → F → Left F D g → Type 0 → (Office → Office → Asked → Type 0) → Type 0
MayRun image start rest Idle Step = Ran image rest Step ⊎ (Idle × IsSpared image start (ShowsHeld image (HoldsState image)) rest)

-- no file was opened
abbrev pub OpensNone : {F D : Type 0} {g : disk.Ghosts D} → F → Left F D g → Type 0
OpensNone start rest = rest ≡ left.Unopened start

-- ---- the steps of single commands, by their words

-- `drop desk`
pub record Commands {W : Type 0} (input : Option (List ℕ)) (words : Desk) (contents : W → Option (List ℕ)) (Done : Type 0) (old : W) (new : Option W)
    (s after : Office) (asked : Asked) : Type 0 where
  pub command : Option (List ℕ)
  pub is_command : IsCommandOf input words.line.now command
  pub tells : TellsLine contents command Done old new s after asked

-- `drop list`
pub record Lists {W : Type 0} (words : Listing) (contents : W → Option (List ℕ)) (Done : Type 0) (old : W) (new : Option W)
    (s after : Office) (asked : Asked) : Type 0 where
  pub stock : Stock
  pub named : words.what.now ≡ stock_name stock
  pub writes : Writes contents (IsListOf stock) Done old new s after asked

-- `drop replay`
pub record Answers {W : Type 0} (words : Replay) (contents : W → Option (List ℕ)) (Done : Type 0) (old : W) (new : Option W)
    (s after : Office) (asked : Asked) : Type 0 where
  pub moment : ℕ
  pub is_moment : WritesMoment words.at.now moment
  pub replays : ReplaysAll contents (length words.streams.items) moment Done old new s after asked

-- `drop serve`
pub record Serves {N L S E C : Type 0} (listens : SocketAddrV4 → L → Type 0) (begins : C → Type 0) (gives : C → ℕ → C → Type 0) (told : L → List (Event S E) → Type 0) (are_ends : S → E → E → Type 0)
    (remaining : Gathered E → Option (List ℕ)) (contents : Outbox E → Option (List ℕ)) (words : Serve) (Done : Type 0) (outside : N) (ending : Ending N L E C)
    (s after : Office) (asked : Asked) : Type 0 where
  pub address : SocketAddrV4
  pub limits : Limits
  pub named : IsServiceOf words address limits
  pub serves : MayServe listens begins gives told are_ends remaining contents address limits Done outside ending s after asked

-- `drop migrate`
abbrev pub MayMigrate : {F D W : Type 0} {g : disk.Ghosts D} → Image → F → Left F D g → (W → Option (List ℕ)) → Type 0 → W → Option W → Type 0
MayMigrate image start rest contents Done old new =
    (Migrated image rest × Says contents done_line Done old new) ⊎ (HandsBack Done old new × IsSpared image start (ShowsHeld image (HoldsEither image)) rest)

-- ---- `drop init`

-- a secret that was given as a word has its form
abbrev pub IsGivenSecret : Secret → Type 0
IsGivenSecret (secret.Given text) = IsSecret text.now
IsGivenSecret (secret.InFile name) = ⊤

-- the secret that was given, or one that a file has; no clause says what a file has
abbrev pub IsSecretOf : Secret → List ℕ → Type 0
IsSecretOf (secret.Given text) bytes = IsSecret bytes × (bytes ≡ text.now)
IsSecretOf (secret.InFile name) bytes = IsSecret bytes

-- the settings of a new office are those of the words: its offset is `east` less `west`
pub record HasSettings (words : Init) (office : OfficeRow) : Type 0 where
  pub clerk : IsKeyId words.clerk.now
  pub east : ℕ
  pub west : ℕ
  pub is_east : IsNumber words.east.now east
  pub is_west : IsNumber words.west.now west
  pub offset : office.east ≡ pos east -ℤ pos west
  pub from : neg_ℤ (pos 840) ≤ℤ office.east
  pub to : office.east ≤ℤ pos 840
  pub allowance : IsNumber words.allowance.now office.allowance

-- the settings and the secret are those of the words
pub record IsFirstRow (words : Init) (office : OfficeRow) (bytes : List ℕ) : Type 0 where
  pub settings : HasSettings words office
  pub secret : IsSecretOf words.secret bytes

-- the first state with such settings, and the clerk's key of the words
pub record IsFirstOf (words : Init) (s : Office) : Type 0 where
  pub office : OfficeRow
  pub bytes : List ℕ
  pub first : IsFirstRow words office bytes
  pub is : s ≡ first_state office.east office.allowance words.clerk.now bytes

-- the files hold a database without tables
pub record HoldsBare (image : Image) : Type 0 where
  pub trees : Trees
  pub found : AreFoundIn image trees
  pub holds : (db : Trees) → HoldsDatabase image db → trees ≡ db
  pub bare : IsDatabase (record { schema = s0; trees = trees })

-- the first state of the words, where the files held no tables
pub record MayBeMade (words : Init) (image : Image) (s : Office) : Type 0 where
  pub held : HoldsBare image
  pub first : IsFirstOf words s

-- The files held no tables. What is left means the first state of the words, and nothing else, also after a crash.
pub record Made {F D : Type 0} {g : disk.Ghosts D} (words : Init) (image : Image) (rest : Left F D g) : Type 0 where
  pub held : HoldsBare image
  pub office : Office
  pub first : IsFirstOf words office
  pub means : LeavesOffice rest office
  pub crash : MayCrashTo rest (λ t. t ≡ office)

-- the office was made, or it was not, and what is left of the files was spared, or leaves the first state after a crash
abbrev pub MayMake : {F D : Type 0} {g : disk.Ghosts D} → Init → Image → F → Left F D g → Type 0 → Type 0
MayMake words image start rest Done = Made words image rest ⊎ ((Done → ⊥) × IsSpared image start (LeavesHeld image (MayBeMade words image)) rest)

-- ---- the whole program

-- the file names no office: `key:` and a file with a secret
abbrev pub IsKeyFile : List ℕ → Type 0
IsKeyFile file = (rest : List ℕ) × (file ≡ codes "key:" ++ rest)

-- the file names an office in memory
abbrev pub IsMemoryFile : List ℕ → Type 0
IsMemoryFile file = (rest : List ℕ) × (file ≡ codes "memory:" ++ rest)

-- in this case this, else that
abbrev pub Unless : Type 0 → Type 0 → Type 0 → Type 0
Unless Case This That = (Case → This) × ((Case → ⊥) → That)

module _ {F D W N L S E C : Type 0} {g : disk.Ghosts D} (listens : SocketAddrV4 → L → Type 0) (begins : C → Type 0) (gives : C → ℕ → C → Type 0) (told : L → List (Event S E) → Type 0)
    (are_ends : S → E → E → Type 0) (remaining : Gathered E → Option (List ℕ)) (contents : Outbox E → Option (List ℕ)) (written : W → Option (List ℕ)) (input : Option (List ℕ)) where
  -- What the task did to the files, which held this image, and what it wrote. start: what stood for the files; outside: what would
  -- listen.
  abbrev pub Performs : Task → Image → F → Left F D g → Type 0 → W → Option W → N → Ending N L E C → Type 0
  Performs (task.Init words) image start rest Done old new outside ending = (new ≡ Some old) × MayMake words image start rest Done
  Performs (task.Desk words) image start rest Done old new outside ending = MayRun image start rest (HandsBack Done old new) (Commands input words written Done old new)
  Performs (task.Link words) image start rest Done old new outside ending = Unless (IsKeyFile words.file.now) (OpensNone start rest) (MayRun image start rest (Done → ⊥) Looks)
  Performs (task.Links words) image start rest Done old new outside ending = Unless (IsKeyFile words.file.now) (OpensNone start rest) (MayRun image start rest (Done → ⊥) Looks)
  Performs (task.Manifest words) image start rest Done old new outside ending = MayRun image start rest (HandsBack Done old new) (Writes written IsManifest Done old new)
  Performs (task.Compare words) image start rest Done old new outside ending = MayRun image start rest (HandsBack Done old new) (Compares written input Done old new)
  Performs (task.List words) image start rest Done old new outside ending = MayRun image start rest (HandsBack Done old new) (Lists words written Done old new)
  Performs (task.Export words) image start rest Done old new outside ending = (new ≡ Some old) × MayRun image start rest (Done → ⊥) Looks
  Performs (task.Replay words) image start rest Done old new outside ending =
      Unless (IsMemoryFile words.file.now) (OpensNone start rest) (MayRun image start rest (HandsBack Done old new) (Answers words written Done old new))
  Performs (task.Serve words) image start rest Done old new outside ending =
      MayRun image start rest (NeverListens Done outside ending) (Serves listens begins gives told are_ends remaining contents words Done outside ending)
  Performs (task.Migrate words) image start rest Done old new outside ending = MayMigrate image start rest written Done old new

-- the task serves an office
abbrev pub IsServe : Task → Type 0
IsServe (task.Serve words) = ⊤
IsServe _ = ⊥

-- What is left if the task is done. A task that may change an office file has closed it, one that only looks at it hands the
-- connection back, and a replay over memory has answered the streams.
abbrev pub Succeeds : {F D W : Type 0} {g : disk.Ghosts D} → (W → Option (List ℕ)) → Task → Left F D g → W → Option W → Type 0
Succeeds contents (task.Init words) rest old new = IsClosed rest
Succeeds contents (task.Desk words) rest old new = IsClosed rest
Succeeds contents (task.Link words) rest old new = Unless (IsKeyFile words.file.now) ⊤ (IsLooked rest)
Succeeds contents (task.Links words) rest old new = Unless (IsKeyFile words.file.now) ⊤ (IsLooked rest)
Succeeds contents (task.Manifest words) rest old new = IsLooked rest
Succeeds contents (task.Compare words) rest old new = IsLooked rest
Succeeds contents (task.List words) rest old new = IsLooked rest
Succeeds contents (task.Export words) rest old new = IsLooked rest
Succeeds contents (task.Replay words) rest old new = Unless (IsMemoryFile words.file.now) (ReplaysNew contents words old new) (IsClosed rest)
Succeeds contents (task.Serve words) rest old new = IsClosed rest
Succeeds contents (task.Migrate words) rest old new = IsClosed rest

-- clap accepts the words, and they name this task
pub record NamesTask (words : List (List ℕ)) (task : Task) : Type 0 where
  pub accepts : fault_of drop_app words ≡ []
  pub names : IsTaskOf words task

-- the words ask for help or for the version
pub record AsksForText (words : List (List ℕ)) : Type 0 where
  pub kind : ErrorKind
  pub is : IsFaultOf words kind
  pub asks : (kind ≡ ErrorKind.DisplayHelp) ⊎ (kind ≡ ErrorKind.DisplayVersion)

-- The words have a fault, or memory was refused to read them. Nothing was opened.
pub record NamesNone {F D N L E C : Type 0} {g : disk.Ghosts D} (words : List (List ℕ)) (start : F) (rest : Left F D g) (outside : N) (ending : Ending N L E C) : Type 0 where
  pub kind : ErrorKind
  pub fault : (kind ≡ ErrorKind.OutOfMemory) ⊎ IsFaultOf words kind
  pub unopened : OpensNone start rest
  pub idle : ending ≡ ending_of.Idle outside
