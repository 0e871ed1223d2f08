use Rattle.std.proofs.Common.{List, ℕ, [], ◌∷◌, ◌++◌, refl, subst, sym}
use Rattle.std.proofs.lemmas.Result.{on_err_weaker, on_ok_weaker}
use Rattle.sixel_judge.specs.Growth.{MayGrowIn}
use Rattle.sixel_model.specs.Profiles.{count_of}
use Rattle.sixel_scan.specs.Checking.{HasRead}
use Rattle.sixel_scan.proofs.ScanLemmas.{control_held, introduced_read, letter_held}
use Rattle.sixel_scan.proofs.scanner.Scanner.check_opening.Goals as goal

pub feed-requires : goal.feed-requires
feed-requires c =
    let s = c.args.self.now in
    let h = c.requires.held in
    let known = introduced_read s.eight (count_of s.profile) s.opened s.check c.args.opening c.requires.introduced
    c.in_default.not-Letter c.in_default.not-Control in
    (count_of s.profile, h.1, known h.0 h.1 h.2)

pub returns-in_default : goal.returns-in_default
returns-in_default c =
    let s = c.args.self.now in
    let known = introduced_read s.eight (count_of s.profile) s.opened s.check c.args.opening c.requires.introduced
    c.in_default.not-Letter c.in_default.not-Control in
    record {
      check = on_ok_weaker c.feed.result
          (λ read offset held holds. read (count_of s.profile) held (known offset held holds)) c.feed.ensures.read;
      memory = on_err_weaker c.feed.result
          (λ grows offset held holds. grows (count_of s.profile) held (known offset held holds)) c.feed.ensures.memory;
      rest = refl;
    }

pub returns-in-Letter : goal.returns-in-Letter
returns-in-Letter c =
    let s = c.args.self.now in
    let known = letter_held s.eight (count_of s.profile) s.opened s.check c.args.opening c.in-Letter.is in
    let now = c.restart_after_letter.new.self.check in
    record {
      check = on_ok_weaker c.restart_after_letter.result
          (λ read offset held holds.
          subst (λ (t : List ℕ). HasRead (count_of s.profile) now (t ++ c.args.byte ∷ []))
          (sym (known offset held holds)) read)
          c.restart_after_letter.ensures.check;
      memory = on_err_weaker c.restart_after_letter.result
          (λ grows offset held holds.
          subst (λ (t : List ℕ). MayGrowIn (count_of s.profile) (t ++ c.args.byte ∷ [])) (sym (known offset held holds))
          grows)
          c.restart_after_letter.ensures.memory;
      rest = c.restart_after_letter.ensures.rest;
    }

pub returns-in-Control : goal.returns-in-Control
returns-in-Control c =
    let s = c.args.self.now in
    let known = control_held s.eight (count_of s.profile) s.opened s.check c.args.opening c.in-Control.is in
    let now = c.restart_after_control.new.self.check in
    record {
      check = on_ok_weaker c.restart_after_control.result
          (λ read offset held holds.
          subst (λ (t : List ℕ). HasRead (count_of s.profile) now (t ++ c.args.byte ∷ []))
          (sym (known offset held holds)) read)
          c.restart_after_control.ensures.check;
      memory = on_err_weaker c.restart_after_control.result
          (λ grows offset held holds.
          subst (λ (t : List ℕ). MayGrowIn (count_of s.profile) (t ++ c.args.byte ∷ [])) (sym (known offset held holds))
          grows)
          c.restart_after_control.ensures.memory;
      rest = c.restart_after_control.ensures.rest;
    }
