-- Sending files one after another.
use Rattle.std.proofs.Common.{◌≡◌, ◌∙◌, ℕ, Bool, true, false, cond, List, [], ◌∷◌, ◌++◌, Option, Some, None, Result, Ok, Err, refl, sym, ap, subst, append_assoc, append-nil}
use Rattle.std.specs.FinMap.{get}
use Rattle.std.specs.Prelude.{IfErr}
use Rattle.std.specs.List.{AllZip}
use Rattle.std.proofs.lemmas.Option.{same_Some}
use Rattle.hex.specs.Hex.{encode_lower}
use Rattle.sigv4.specs.Hmac.{sha256}
use Rattle.boxes.specs.Rows.{file_of, IsFileAt, receipt_in}
use Rattle.boxes.specs.Sound.{IsMoment, IsReceipt, IsSound}
use Rattle.boxes.specs.State.{File, Place, State}
use Rattle.boxes.specs.declared.rows.FileRow.{FileRow}
use Rattle.boxes.proofs.NoBox.{all_at}
use Rattle.wire.specs.Sending.{Sends}
use Rattle.wire.proofs.Written.{sends_both}
use Rattle.lists.specs.Lists.{line}
use Rattle.lists.proofs.AnsweredLists.{lines_joined, lines_none, lines_push, sends_nothing, sends_whole}
use Rattle.lists.specs.Exports.{IsPut, IsRecord, IsRow, IsSum, SendsFiles, Shown}
use Rattle.lists.specs.Faults.{by_keeper, if_put, IsOfAsking, IsOfWriting, was_put}
use Rattle.lists.specs.Folders.{Adds, PutFile}
use Rattle.lists.specs.Names.{IsExportName, IsFolderName}
use Rattle.lists.specs.declared.export_fault.ExportFault.{ExportFault}
use Rattle.lists.specs.declared.export_fault.ExportFault.TheVariants as fault

pub adds_nothing : (o : Option (List PutFile)) → Adds o o []
adds_nothing None = tt
adds_nothing (Some x) = sym (append-nil x)

adds_joined : (a b c : Option (List PutFile)) (xs ys : List PutFile) → Adds a b xs → Adds b c ys → Adds a c (xs ++ ys)
adds_joined None b c xs ys p q = tt
adds_joined (Some x) None c xs ys p q = absurd p
adds_joined (Some x) (Some y) None xs ys p q = absurd q
adds_joined (Some x) (Some y) (Some z) xs ys p q = q ∙ ap (λ l. l ++ ys) p ∙ append_assoc x xs ys

zip_joined : {A B : Type 0} (R : A → B → Type 0) (xs : List A) (ps : List B) (ys : List A) (qs : List B) → AllZip R xs ps → AllZip R ys qs → AllZip R (xs ++ ys) (ps ++ qs)
zip_joined R [] [] ys qs a b = b
zip_joined R [] (p ∷ ps) ys qs a b = absurd a
zip_joined R (x ∷ xs) [] ys qs a b = absurd a
zip_joined R (x ∷ xs) (p ∷ ps) ys qs a b = (a.0, zip_joined R xs ps ys qs a.1 b)

pub none_sent : {T E : Type 0} (s : State) (o : Shown) (r : Result T E) → SendsFiles s [] o o r
none_sent s o r = record {
  puts = [];
  are_puts = tt;
  put = adds_nothing o.folder;
  rows = [];
  are_rows = lines_none (IsRow s);
  files = sends_nothing o.files;
  sum_lines = [];
  are_sums = lines_none IsSum;
  sums = sends_nothing o.sums;
}

pub sent_joined : {T E : Type 0} (s : State) (xs ys : List (Place × File)) (old mid new : Shown) (u : T) (r : Result T E)
    → SendsFiles {E = E} s xs old mid (Ok u) → SendsFiles s ys mid new r → SendsFiles s (xs ++ ys) old new r
sent_joined s xs ys old mid new u r a b = record {
  puts = a.puts ++ b.puts;
  are_puts = zip_joined IsPut xs a.puts ys b.puts a.are_puts b.are_puts;
  put = adds_joined old.folder mid.folder new.folder a.puts b.puts a.put b.put;
  rows = a.rows ++ b.rows;
  are_rows = lines_joined (IsRow s) xs ys a.rows b.rows a.are_rows b.are_rows;
  files = sends_both a.rows b.rows old.files mid.files new.files u r a.files b.files;
  sum_lines = a.sum_lines ++ b.sum_lines;
  are_sums = lines_joined IsSum xs ys a.sum_lines b.sum_lines a.are_sums b.are_sums;
  sums = sends_both a.sum_lines b.sum_lines old.sums mid.sums new.sums u r a.sums b.sums;
}

pub sent_whole : {T U E F : Type 0} (s : State) (xs : List (Place × File)) (old new : Shown) (u : U) (r : Result T E) → SendsFiles {E = F} s xs old new (Ok u) → SendsFiles s xs old new r
sent_whole s xs old new u r a = record {
  puts = a.puts;
  are_puts = a.are_puts;
  put = a.put;
  rows = a.rows;
  are_rows = a.are_rows;
  files = sends_whole u r a.files;
  sum_lines = a.sum_lines;
  are_sums = a.are_sums;
  sums = sends_whole u r a.sums;
}

not_put : (T : Type 0) (e : ExportFault) → IsOfAsking e → was_put {T = T} (Err e) ≡ false
not_put T (fault.Keep f) is = refl
not_put T (fault.Put f) is = absurd is
not_put T fault.Files is = absurd is
not_put T fault.Sums is = absurd is
not_put T fault.Memory is = refl

-- nothing was done, because asking the keeper failed
pub asking_failed : {T : Type 0} (s : State) (o : Shown) (e : ExportFault) (xs : List (Place × File)) → IsOfAsking e
    → SendsFiles {T = T} s (if_put {T = T} (Err e) xs) o o (Err e)
asking_failed {T} s o e xs is = subst (λ (b : Bool). SendsFiles {T = T} s (cond b xs []) o o (Err e)) (sym (not_put T e is)) (none_sent s o (Err e))

one_sent : {T : Type 0} (s : State) (x : Place × File) (p : PutFile) (row sum : List ℕ) (old new : Shown) (r : Result T ExportFault) (b : Bool)
    → IsPut x p → IsRow s x row → IsSum x sum → Adds old.folder new.folder (cond b (p ∷ []) []) → Sends (cond b row []) old.files new.files r
    → Sends (cond b sum []) old.sums new.sums r → SendsFiles s (cond b (x ∷ []) []) old new r
one_sent s x p row sum old new r true is_put is_row is_sum put files sums = record {
  puts = p ∷ [];
  are_puts = (is_put, tt);
  put = put;
  rows = row;
  are_rows = lines_push (IsRow s) [] [] x row (lines_none (IsRow s)) is_row;
  files = files;
  sum_lines = sum;
  are_sums = lines_push IsSum [] [] x sum (lines_none IsSum) is_sum;
  sums = sums;
}
one_sent s x p row sum old new r false is_put is_row is_sum put files sums = record {
  puts = [];
  are_puts = tt;
  put = put;
  rows = [];
  are_rows = lines_none (IsRow s);
  files = files;
  sum_lines = [];
  are_sums = lines_none IsSum;
  sums = sums;
}

-- the file that the keeper returned for the place was sent
pub told_sent : {T : Type 0} (s : State) (place : Place) (row : FileRow) (f : File) (folder name path text sum : List ℕ) (old new : Shown) (r : Result T ExportFault)
    → IsSound s → IsFileAt s place (Some row) → get s.files place ≡ Some f
    → IsFolderName place.box folder → IsExportName row.receipt.number place.name name → path ≡ folder ++ 47 ∷ name
    → (IsMoment row.receipt.moment → (fields : List (List ℕ)) × IsRecord path place (file_of row) (receipt_in row.receipt) fields × (text ≡ line fields))
    → sum ≡ encode_lower (sha256 row.bytes.items) ++ (32 ∷ 32 ∷ path) ++ 10 ∷ []
    → Adds old.folder new.folder (if_put r (record { path = folder ++ 47 ∷ name; bytes = row.bytes.items } ∷ []))
    → Sends (if_put r text) old.files new.files r → Sends (if_put r sum) old.sums new.sums r
    → SendsFiles s (if_put r ((place, f) ∷ [])) old new r
told_sent s place row f folder name path text sum old new r sound told there is_folder is_name is_path is_row is_sum put files sums =
    let same : file_of row ≡ f = same_Some (file_of row) f (told.file ∙ there) in
    let listed = told.receipt row refl in
    let moment = (all_at (IsReceipt s) s.receipts listed.place (receipt_in row.receipt) sound.receipts listed.listed).moment in
    let (fields, are, is) = is_row moment in
    subst (λ (x : File). SendsFiles s (if_put r ((place, x) ∷ [])) old new r) same (one_sent s (place, file_of row) (record { path = folder ++ 47 ∷ name; bytes = row.bytes.items }) text sum old new r (was_put r) (record {
      path = record { folder = folder; is_folder = is_folder; name = name; is_name = is_name; is = refl };
      bytes = refl;
    }) (record {
      path = path;
      is_path = record { folder = folder; is_folder = is_folder; name = name; is_name = is_name; is = is_path };
      receipt = receipt_in row.receipt;
      listed = listed;
      fields = fields;
      are = are;
      is = is;
    }) (record {
      path = path;
      is_path = record { folder = folder; is_folder = is_folder; name = name; is_name = is_name; is = is_path };
      is = is_sum;
    }) put files sums)

-- a fault of the folder or of a writer is none of the keeper
pub keeper_done : {T : Type 0} (r : Result T ExportFault) → IfErr r IsOfWriting → by_keeper r ≡ Ok tt
keeper_done (Ok x) is = refl
keeper_done (Err (fault.Put f)) is = refl
keeper_done (Err fault.Files) is = refl
keeper_done (Err fault.Sums) is = refl
keeper_done (Err (fault.Keep f)) is = absurd is
keeper_done (Err fault.Memory) is = absurd is

-- a file that was put under equal names, with equal bytes
pub put_same : (old new : Option (List PutFile)) (a b c d xs ys : List ℕ) → a ≡ b → c ≡ d → xs ≡ ys → Adds old new (record { path = a ++ 47 ∷ c; bytes = xs } ∷ [])
    → Adds old new (record { path = b ++ 47 ∷ d; bytes = ys } ∷ [])
put_same old new a b c d xs ys folder name bytes put = subst (λ (p : PutFile). Adds old new (p ∷ [])) (λ i. record { path = folder i ++ 47 ∷ name i; bytes = bytes i }) put
