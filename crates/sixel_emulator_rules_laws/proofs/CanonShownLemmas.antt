-- foot shows a picture by its canonical list.
use Rattle.std.proofs.Common.{ℕ, ◌≤◌, subst, sym}
use Rattle.sixel_model.specs.Pictures.{PictureValue}
use Rattle.sixel_model.specs.Rules.{BreaksNone, last_rule}
use Rattle.sixel_named_terminals.specs.declared.named.Named.TheVariants.{Foot}
use Rattle.sixel_encode.specs.Canon.{canon}
use Rattle.sixel_encode_laws.proofs.LeadsBackLemmas.{lists_break_no_rule, lists_leave_their_picture}
use Rattle.sixel_encode_laws.proofs.WrittenLemmas.{lists_are_whole}
use Rattle.sixel_emulator_rules_laws.specs.Laws.{CanonShownOnFoot, IsShownOn}
use Rattle.sixel_emulator_rules_laws.proofs.AskedForms.{stale_only}
use Rattle.sixel_emulator_rules_laws.proofs.CanonLemmas.{canon_defines_first}
use Rattle.sixel_emulator_rules_laws.proofs.ShownLemmas.{foot_shows}
use Rattle.sixel_emulator_rules_laws.proofs.StaleLemmas.{first_is_not_stale}

pub canon_shown : (n : ℕ) → n ≤ 1024 → CanonShownOnFoot n
canon_shown n few background width height p picture across down =
    let none : BreaksNone n last_rule (canon p) = lists_break_no_rule n p picture in
    let left = lists_leave_their_picture n p picture in
    subst (IsShownOn Foot background (width, height) (canon p)) left
    (foot_shows n few background width height (canon p) (lists_are_whole p) none
    (stale_only (canon p) (first_is_not_stale (canon p) (canon_defines_first p)))
    (subst (λ (q : PictureValue). q.width ≤ width) (sym left) across)
    (subst (λ (q : PictureValue). q.height ≤ height) (sym left) down))
