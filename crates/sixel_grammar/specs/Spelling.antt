-- Which bytes spell an event, and the one spelling that is written.
use Rattle.std.specs.Prelude.{◌≡◌, ℕ, ◌+◌, ◌<◌, ◌≤◌, ◌⊎◌, Bool, true, false, List, [], ◌∷◌, ◌++◌, length, take, decimal}
use Rattle.std.specs.List.{AllByRecursion}
use Rattle.sixel_grammar.specs.declared.command.Command.{Command}
use Rattle.sixel_grammar.specs.declared.command.Command.TheVariants.{Sixel, Repeat, Raster, Select, Define}
use Rattle.sixel_grammar.specs.declared.command.Command.TheVariants.{CarriageReturn, NextLine}
use Rattle.sixel_grammar.specs.declared.command.Event.{Event}
use Rattle.sixel_grammar.specs.declared.command.Event.TheVariants.{Start, Step, Finish}
use Rattle.sixel_grammar.specs.Bytes.{separator, repeat_sign, raster_sign, colour_sign, introducer, terminator}
use Rattle.sixel_grammar.specs.Number.{NumberText, Fields}

-- sixel bits are at most 63, and a start has a parameter; if `IsEvent` holds too, some bytes spell the event
abbrev pub IsSpellable : Event → Type 0
IsSpellable (Start eight parameters) = 0 < length parameters.items
IsSpellable (Step (Sixel bits)) = bits ≤ 63
IsSpellable (Step (Repeat count bits)) = bits ≤ 63
IsSpellable _ = Unit {0}

-- the first four numbers, with 0 for each missing one
abbrev pub four_of : List ℕ → List ℕ
four_of ns = take 4 (ns ++ 0 ∷ 0 ∷ 0 ∷ 0 ∷ [])

-- these bytes spell the command
abbrev pub SpellsCommand : Command → List ℕ → Type 0
SpellsCommand (Sixel bits) bytes = (bits ≤ 63) × (bytes ≡ (63 + bits) ∷ [])
SpellsCommand (Repeat count bits) bytes =
    (number : List ℕ) × NumberText count number × (bits ≤ 63) × (bytes ≡ repeat_sign ∷ number ++ (63 + bits) ∷ [])
-- one to four fields; missing ones are 0
SpellsCommand (Raster pan pad width height) bytes =
    (ns fields : List ℕ) × Fields ns fields × (length ns ≤ 4)
    × (four_of ns ≡ pan ∷ pad ∷ width ∷ height ∷ []) × (bytes ≡ raster_sign ∷ fields)
SpellsCommand (Select register) bytes =
    (fields : List ℕ) × Fields (register ∷ []) fields × (bytes ≡ colour_sign ∷ fields)
SpellsCommand (Define register system x y z) bytes =
    (fields : List ℕ) × Fields (register ∷ system ∷ x ∷ y ∷ z ∷ []) fields × (bytes ≡ colour_sign ∷ fields)
-- Graphics Carriage Return, `$`
SpellsCommand CarriageReturn bytes = bytes ≡ 36 ∷ []
-- Graphics New Line, `-`
SpellsCommand NextLine bytes = bytes ≡ 45 ∷ []

-- these bytes spell the event
abbrev pub Spells : Event → List ℕ → Type 0
-- one to three parameters; one more `;` may follow the third
Spells (Start eight parameters) bytes =
    (fields last : List ℕ) × Fields parameters.items fields × (length parameters.items ≤ 3)
    × ((last ≡ 113 ∷ []) ⊎ ((last ≡ separator ∷ 113 ∷ []) × (length parameters.items ≡ 3)))
    × (bytes ≡ introducer eight ++ fields ++ last)
Spells (Step command) bytes = SpellsCommand command bytes
Spells (Finish eight) bytes = bytes ≡ terminator eight

-- whether a later byte may still lengthen the spelling
abbrev pub is_open_ended : Event → Bool
is_open_ended (Step (Raster pan pad width height)) = true
is_open_ended (Step (Select register)) = true
is_open_ended (Step (Define register system x y z)) = true
is_open_ended _ = false

-- numbers without leading zeros, joined by `;`
abbrev pub fixed_fields : List ℕ → List ℕ
fixed_fields [] = []
fixed_fields (n ∷ []) = decimal n
fixed_fields (n ∷ m ∷ ns) = decimal n ++ separator ∷ fixed_fields (m ∷ ns)

abbrev pub fixed_command : Command → List ℕ
fixed_command (Sixel bits) = (63 + bits) ∷ []
fixed_command (Repeat count bits) = repeat_sign ∷ decimal count ++ (63 + bits) ∷ []
fixed_command (Raster pan pad width height) = raster_sign ∷ fixed_fields (pan ∷ pad ∷ width ∷ height ∷ [])
fixed_command (Select register) = colour_sign ∷ decimal register
fixed_command (Define register system x y z) = colour_sign ∷ fixed_fields (register ∷ system ∷ x ∷ y ∷ z ∷ [])
fixed_command CarriageReturn = 36 ∷ []
fixed_command NextLine = 45 ∷ []

-- the one spelling that is written
abbrev pub fixed_spelling : Event → List ℕ
fixed_spelling (Start eight parameters) = introducer eight ++ fixed_fields parameters.items ++ 113 ∷ []
fixed_spelling (Step command) = fixed_command command
fixed_spelling (Finish eight) = terminator eight

-- the numbers fit in 16 bits, as those of a program's events do
abbrev pub AreNumbers : List ℕ → Type 0
AreNumbers ns = AllByRecursion (λ n. n ≤ 65535) ns

abbrev pub IsCommand : Command → Type 0
IsCommand (Sixel bits) = bits ≤ 255
IsCommand (Repeat count bits) = (count ≤ 65535) × (bits ≤ 255)
IsCommand (Raster pan pad width height) = AreNumbers (pan ∷ pad ∷ width ∷ height ∷ [])
IsCommand (Select register) = register ≤ 65535
IsCommand (Define register system x y z) = AreNumbers (register ∷ system ∷ x ∷ y ∷ z ∷ [])
IsCommand CarriageReturn = Unit {0}
IsCommand NextLine = Unit {0}

-- an event as a program has it: its numbers fit their types, and a start has at most three parameters
abbrev pub IsEvent : Event → Type 0
IsEvent (Start eight parameters) = (length parameters.items ≤ 3) × AreNumbers parameters.items
IsEvent (Step command) = IsCommand command
IsEvent (Finish eight) = Unit {0}
