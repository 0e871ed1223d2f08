-- The canonical texts of small pictures.
use Rattle.std.proofs.Common.{◌≡◌, ℕ, Some, None, List, [], ◌∷◌, ◌++◌, lit≤, refl, replicate}
use Rattle.std.specs.Prelude.{IfSome, codes}
use Rattle.std.proofs.lemmas.List.Elements.{All-from_recursion}
use Rattle.std.specs.Fmt.{digits}
use Rattle.sixel_model.specs.declared.colour.Parts.TheVariants.{Rgb, Hls}
use Rattle.sixel_model.specs.Colours.{IsColour}
use Rattle.sixel_model.specs.Pictures.{PictureValue, IsPicture}
use Rattle.sixel_model.specs.Rules.{picture_left}
use Rattle.sixel_encode.specs.Canon.{runs, column_bits, band_columns, occurs, band_registers, register_commands}
use Rattle.sixel_encode.specs.Canon.{band_commands, define_commands, picture_commands, canon_commands, canon}
use Rattle.sixel_encode.specs.Canon.{canon_text}
use Rattle.sixel_encode_laws.proofs.LeadsBackLemmas.{lists_leave_their_picture}

-- ESC P 0;1 q, a quotation mark, the text, ESC \
abbrev in_string : List ℕ → List ℕ
in_string text = 27 ∷ codes "P0;1q" ++ 34 ∷ text ++ 27 ∷ 92 ∷ []

-- 1 by 1 pixels in register 0, and an HLS entry that no pixel uses
abbrev dot : PictureValue
dot = record {
  width = 1;
  height = 1;
  palette = Some (Rgb 0 0 0) ∷ None ∷ None ∷ Some (Hls 120 50 100) ∷ replicate 12 None;
  registers = 0 ∷ [];
}

dot_text : canon_text dot ≡ in_string (codes "1;1;1;1#0;2;0;0;0#3;1;120;50;100#0@")
unfolding runs column_bits band_columns occurs band_registers register_commands band_commands define_commands
    picture_commands canon_commands canon digits
dot_text = refl

-- three equal columns are three single sixels
abbrev three : PictureValue
three = record {
  width = 3;
  height = 1;
  palette = Some (Rgb 100 0 0) ∷ replicate 15 None;
  registers = replicate 3 0;
}

three_text : canon_text three ≡ in_string (codes "1;1;3;1#0;2;100;0;0#0@@@")
unfolding runs column_bits band_columns occurs band_registers register_commands band_commands define_commands
    picture_commands canon_commands canon digits
three_text = refl

-- four equal columns are one repeat. A carriage return comes between two registers of a band. Blank columns are written
-- only before a column with a set bit
abbrev ends : PictureValue
ends = record {
  width = 6;
  height = 1;
  palette = Some (Rgb 0 0 0) ∷ Some (Rgb 100 100 100) ∷ replicate 14 None;
  registers = 1 ∷ 0 ∷ 0 ∷ 0 ∷ 0 ∷ 1 ∷ [];
}

ends_text : canon_text ends ≡ in_string (codes "1;1;6;1#0;2;0;0;0#1;2;100;100;100#0?!4@$#1@!4?@")
unfolding runs column_bits band_columns occurs band_registers register_commands band_commands define_commands
    picture_commands canon_commands canon digits
ends_text = refl

-- two bands, the second of one row, with several registers in a band
abbrev hi : PictureValue
hi = record {
  width = 14;
  height = 7;
  palette = Some (Rgb 0 0 0) ∷ Some (Rgb 100 100 0) ∷ Some (Rgb 0 100 0) ∷ replicate 13 None;
  registers = (1 ∷ 1 ∷ 1 ∷ 1 ∷ 1 ∷ 1 ∷ 1 ∷ 1 ∷ 1 ∷ 1 ∷ 1 ∷ 1 ∷ 1 ∷ 1 ∷ [])
      ++ (1 ∷ 1 ∷ 2 ∷ 2 ∷ 1 ∷ 1 ∷ 2 ∷ 2 ∷ 1 ∷ 1 ∷ 2 ∷ 2 ∷ 1 ∷ 1 ∷ [])
      ++ (1 ∷ 1 ∷ 2 ∷ 2 ∷ 1 ∷ 1 ∷ 2 ∷ 2 ∷ 1 ∷ 1 ∷ 2 ∷ 2 ∷ 1 ∷ 1 ∷ [])
      ++ (1 ∷ 1 ∷ 2 ∷ 2 ∷ 2 ∷ 2 ∷ 2 ∷ 2 ∷ 1 ∷ 1 ∷ 2 ∷ 2 ∷ 1 ∷ 1 ∷ [])
      ++ (1 ∷ 1 ∷ 2 ∷ 2 ∷ 1 ∷ 1 ∷ 2 ∷ 2 ∷ 1 ∷ 1 ∷ 2 ∷ 2 ∷ 1 ∷ 1 ∷ [])
      ++ (1 ∷ 1 ∷ 2 ∷ 2 ∷ 1 ∷ 1 ∷ 2 ∷ 2 ∷ 1 ∷ 1 ∷ 2 ∷ 2 ∷ 1 ∷ 1 ∷ [])
      ++ (1 ∷ 1 ∷ 1 ∷ 1 ∷ 1 ∷ 1 ∷ 1 ∷ 1 ∷ 1 ∷ 1 ∷ 1 ∷ 1 ∷ 1 ∷ 1 ∷ []);
}

hi_text : canon_text hi
    ≡ in_string (codes "1;1;14;7#0;2;0;0;0#1;2;100;100;0#2;2;0;100;0#1~~@@vv@@~~@@~~$#2??}}GG}}??}}-#1!14@")
unfolding runs column_bits band_columns occurs band_registers register_commands band_commands define_commands
    picture_commands canon_commands canon digits
hi_text = refl

-- ---- the laws aren't empty: there is such a picture

dot_is_picture : IsPicture 16 dot
dot_is_picture = record {
  accepted = refl;
  palette = record {
    entries = refl;
    in_range = All-from_recursion (λ o. IfSome o IsColour) dot.palette (
      (lit≤ tt, lit≤ tt, lit≤ tt),
      (
        tt,
        (
          tt,
          ((lit≤ tt, lit≤ tt, lit≤ tt), (tt, (tt, (tt, (tt, (tt, (tt, (tt, (tt, (tt, (tt, (tt, (tt, tt))))))))))))),
        ),
      ),
    );
  };
}

dot_left : picture_left 16 (canon dot) ≡ dot
dot_left = lists_leave_their_picture 16 dot dot_is_picture
