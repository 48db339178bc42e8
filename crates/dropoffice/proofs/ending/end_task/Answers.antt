use Rattle.std.proofs.Common.{refl, arith}
use Rattle.std.specs.Prelude.{IsOk}
use Rattle.sqlite.specs.WalFiles.{image_at}
use Rattle.commands.specs.Listing.{IsManifest}
use Rattle.dropoffice.proofs.Less.{answers_less, commands_less, compares_less, fails_less, lists_less, looks_less, migrates_less, never_less, run_more, serves_less, speaks_less, unless_more, writes_less}
use Rattle.dropoffice.proofs.ending.end_task.Goals as goal

pub returns-in-Init-clause-office : goal.returns-in-Init-clause-office
returns-in-Init-clause-office g c ours =
    let so : IsOk c.plain.result.result → IsOk c.do_init.result.gain = λ done. (c.plain.ensures.done done).0 in
    rw (c.in-Init.is, c.plain.ensures.left, c.plain.ensures.out)
    (λ clean. (refl, fails_less so (c.do_init.ensures.made clean)))

pub returns-in-Desk-clause-office : goal.returns-in-Desk-clause-office
returns-in-Desk-clause-office g c ours =
    let so : IsOk c.spoken.result.result → IsOk c.do_desk.result.gain.result = λ done. (c.spoken.ensures.done done).0 in
    rw (c.in-Desk.is, c.spoken.ensures.left, c.spoken.ensures.out)
    (λ clean. speaks_less so (image_at g.S.Start) c.args.start c.do_desk.result.left g.W.Write.contents c.args.out c.do_desk.result.gain.out _ _ (commands_less so g.W.Write.contents c.args.out c.do_desk.result.gain.out (g.R.Read.remaining c.args.input) c.in-Desk.words) (c.do_desk.ensures.ran ours clean))

pub returns-in-Link-clause-office : goal.returns-in-Link-clause-office
returns-in-Link-clause-office g c ours =
    let so : IsOk c.spoken-in-Link.result.result → IsOk c.do_link.result.gain.result = λ done. (c.spoken-in-Link.ensures.done done).0 in
    rw (c.in-Link.is, c.spoken-in-Link.ensures.left)
    (λ clean. unless_more (looks_less so (image_at g.S.Start) c.args.start c.do_link.result.left) (c.do_link.ensures.ran ours clean))

pub returns-in-Links-clause-office : goal.returns-in-Links-clause-office
returns-in-Links-clause-office g c ours =
    let so : IsOk c.spoken-in-Links.result.result → IsOk c.do_links.result.gain.result = λ done. (c.spoken-in-Links.ensures.done done).0 in
    rw (c.in-Links.is, c.spoken-in-Links.ensures.left)
    (λ clean. unless_more (looks_less so (image_at g.S.Start) c.args.start c.do_links.result.left) (c.do_links.ensures.ran ours clean))

pub returns-in-Manifest-clause-office : goal.returns-in-Manifest-clause-office
returns-in-Manifest-clause-office g c ours =
    let so : IsOk c.spoken-in-Manifest.result.result → IsOk c.do_manifest.result.gain.result = λ done. (c.spoken-in-Manifest.ensures.done done).0 in
    rw (c.in-Manifest.is, c.spoken-in-Manifest.ensures.left, c.spoken-in-Manifest.ensures.out)
    (λ clean. speaks_less so (image_at g.S.Start) c.args.start c.do_manifest.result.left g.W.Write.contents c.args.out c.do_manifest.result.gain.out _ _ (writes_less so g.W.Write.contents c.args.out c.do_manifest.result.gain.out IsManifest) (c.do_manifest.ensures.ran ours clean))

pub returns-in-Compare-clause-office : goal.returns-in-Compare-clause-office
returns-in-Compare-clause-office g c ours =
    let so : IsOk c.spoken-in-Compare.result.result → IsOk c.do_compare.result.gain.result = λ done. (c.spoken-in-Compare.ensures.done done).0 in
    rw (c.in-Compare.is, c.spoken-in-Compare.ensures.left, c.spoken-in-Compare.ensures.out)
    (λ clean. speaks_less so (image_at g.S.Start) c.args.start c.do_compare.result.left g.W.Write.contents c.args.out c.do_compare.result.gain.out _ _ (compares_less so g.W.Write.contents c.args.out c.do_compare.result.gain.out (g.R.Read.remaining c.args.input)) (c.do_compare.ensures.ran ours clean))

pub returns-in-List-clause-office : goal.returns-in-List-clause-office
returns-in-List-clause-office g c ours =
    let so : IsOk c.spoken-in-List.result.result → IsOk c.do_list.result.gain.result = λ done. (c.spoken-in-List.ensures.done done).0 in
    rw (c.in-List.is, c.spoken-in-List.ensures.left, c.spoken-in-List.ensures.out)
    (λ clean. speaks_less so (image_at g.S.Start) c.args.start c.do_list.result.left g.W.Write.contents c.args.out c.do_list.result.gain.out _ _ (lists_less so g.W.Write.contents c.args.out c.do_list.result.gain.out c.in-List.words) (c.do_list.ensures.ran ours clean))

pub returns-in-Export-clause-office : goal.returns-in-Export-clause-office
returns-in-Export-clause-office g c ours =
    let so : IsOk c.plain-in-Export.result.result → IsOk c.do_export.result.gain = λ done. (c.plain-in-Export.ensures.done done).0 in
    rw (c.in-Export.is, c.plain-in-Export.ensures.left, c.plain-in-Export.ensures.out)
    (λ clean. (refl, looks_less so (image_at g.S.Start) c.args.start c.do_export.result.left (c.do_export.ensures.ran ours clean)))

pub returns-in-Replay-clause-office : goal.returns-in-Replay-clause-office
returns-in-Replay-clause-office g c ours =
    let so : IsOk c.spoken-in-Replay.result.result → IsOk c.do_replay.result.gain.result = λ done. (c.spoken-in-Replay.ensures.done done).0 in
    rw (c.in-Replay.is, c.spoken-in-Replay.ensures.left, c.spoken-in-Replay.ensures.out)
    (λ clean. unless_more (speaks_less so (image_at g.S.Start) c.args.start c.do_replay.result.left g.W.Write.contents c.args.out c.do_replay.result.gain.out _ _ (answers_less so g.W.Write.contents c.args.out c.do_replay.result.gain.out c.in-Replay.words)) (c.do_replay.ensures.ran ours clean))

pub returns-in-Serve-clause-office : goal.returns-in-Serve-clause-office
returns-in-Serve-clause-office g c ours =
    let so : IsOk c.served.result.result → IsOk c.do_serve.result.gain.result = λ done. (c.served.ensures.done done).0 in
    rw (c.in-Serve.is, c.served.ensures.left, c.served.ensures.ending)
    (λ clean. run_more _ _ _ _ (serves_less so _ _ _ _ _ _ _ _ _ _) (never_less so c.args.outside c.do_serve.result.gain.ending) (image_at g.S.Start) c.args.start c.do_serve.result.left (c.do_serve.ensures.ran ours clean))

pub returns-in-Migrate-clause-office : goal.returns-in-Migrate-clause-office
returns-in-Migrate-clause-office g c ours =
    let so : IsOk c.spoken-in-Migrate.result.result → IsOk c.do_migrate.result.gain.result = λ done. (c.spoken-in-Migrate.ensures.done done).0 in
    rw (c.in-Migrate.is, c.spoken-in-Migrate.ensures.left, c.spoken-in-Migrate.ensures.out)
    (λ clean. migrates_less so (image_at g.S.Start) c.args.start c.do_migrate.result.left g.W.Write.contents c.args.out c.do_migrate.result.gain.out (c.do_migrate.ensures.ran ours clean))

pub returns-in-Compare-clause-done : goal.returns-in-Compare-clause-done
returns-in-Compare-clause-done g c = grind arith

pub returns-in-Compare-clause-heard : goal.returns-in-Compare-clause-heard
returns-in-Compare-clause-heard g c = grind arith

pub returns-in-Desk-clause-done : goal.returns-in-Desk-clause-done
returns-in-Desk-clause-done g c = grind arith

pub returns-in-Desk-clause-heard : goal.returns-in-Desk-clause-heard
returns-in-Desk-clause-heard g c = grind arith

pub returns-in-Export-clause-done : goal.returns-in-Export-clause-done
returns-in-Export-clause-done g c = grind arith

pub returns-in-Export-clause-heard : goal.returns-in-Export-clause-heard
returns-in-Export-clause-heard g c = grind arith

pub returns-in-Init-clause-done : goal.returns-in-Init-clause-done
returns-in-Init-clause-done g c = grind arith

pub returns-in-Init-clause-heard : goal.returns-in-Init-clause-heard
returns-in-Init-clause-heard g c = grind arith

pub returns-in-Link-clause-done : goal.returns-in-Link-clause-done
returns-in-Link-clause-done g c = grind arith

pub returns-in-Link-clause-heard : goal.returns-in-Link-clause-heard
returns-in-Link-clause-heard g c = grind arith

pub returns-in-Links-clause-done : goal.returns-in-Links-clause-done
returns-in-Links-clause-done g c = grind arith

pub returns-in-Links-clause-heard : goal.returns-in-Links-clause-heard
returns-in-Links-clause-heard g c = grind arith

pub returns-in-List-clause-done : goal.returns-in-List-clause-done
returns-in-List-clause-done g c = grind arith

pub returns-in-List-clause-heard : goal.returns-in-List-clause-heard
returns-in-List-clause-heard g c = grind arith

pub returns-in-Manifest-clause-done : goal.returns-in-Manifest-clause-done
returns-in-Manifest-clause-done g c = grind arith

pub returns-in-Manifest-clause-heard : goal.returns-in-Manifest-clause-heard
returns-in-Manifest-clause-heard g c = grind arith

pub returns-in-Migrate-clause-done : goal.returns-in-Migrate-clause-done
returns-in-Migrate-clause-done g c = grind arith

pub returns-in-Migrate-clause-heard : goal.returns-in-Migrate-clause-heard
returns-in-Migrate-clause-heard g c = grind arith

pub returns-in-Replay-clause-done : goal.returns-in-Replay-clause-done
returns-in-Replay-clause-done g c = grind arith

pub returns-in-Replay-clause-heard : goal.returns-in-Replay-clause-heard
returns-in-Replay-clause-heard g c = grind arith

pub returns-in-Serve-clause-done : goal.returns-in-Serve-clause-done
returns-in-Serve-clause-done g c = grind arith

pub returns-in-Serve-clause-heard : goal.returns-in-Serve-clause-heard
returns-in-Serve-clause-heard g c = grind arith
