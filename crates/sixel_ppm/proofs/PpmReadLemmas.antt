-- Reading a picture file in the pieces that a source gives.
use Rattle.std.proofs.Common.{◌≡◌, ◌+◌, ◌-◌, ◌<◌, ◌≤◌, ℕ, zero, suc, Bool, true, ◌&&◌, Option, Some, None, Result, Ok}
use Rattle.std.proofs.Common.{Err, List}
use Rattle.std.proofs.Common.{false, [], ◌∷◌, ◌++◌, length, take, drop, get_or, refl, sym, ap, ap₂, subst, ◌∙◌}
use Rattle.std.proofs.Common.{append_assoc}
use Rattle.std.proofs.Common.{arith, length-take-le}
use Rattle.std.specs.Prelude.{IfErr, IfOk, IfSome, IsErrAnd, IsOk, MatchResult}
use Rattle.std.proofs.lemmas.Bool.Decides.{nat_tests}
use Rattle.std.specs.Io.KnownBytes.{Consumes, IsAtEnd, Keeps}
use Rattle.std.proofs.lemmas.List.{append-nil, drop-take, take_more, take-append-drop}
use Rattle.sixel_grammar.proofs.SourceLemmas.{all_read, consumes-kept, consumes-then}
use Rattle.sixel_model.specs.Pictures.{PictureValue, is_side}
use Rattle.sixel_ppm.specs.PpmFeeding.{Completes, HasStarted, IsInHeader, IsInSamples, MovesOn, ReadsHeader, ReadsRest}
use Rattle.sixel_ppm.specs.PpmFeeding.{RefusesHeader, head_with}
use Rattle.sixel_ppm.specs.PpmHeader.{header_after, header_in, header_on, is_within, step}
use Rattle.sixel_ppm.specs.PpmPartialPixel.{is_good, partial_samples}
use Rattle.sixel_ppm.specs.PpmReading.{◌>>=◌, CountsReadFault, HasWholeHeader, Head, MayGoOn, NoPpmFaultBefore}
use Rattle.sixel_ppm.specs.PpmReading.{ReadsPpm, at_fault, head_of, picture_after, picture_of, pixels, ppm_read}
use Rattle.sixel_ppm.specs.PpmSamples.{Begins, FailsOn, LeadsOn, Holds, Refuses, registers_in, samples_on}
use Rattle.sixel_model.specs.declared.colour.Parts.{Parts}
use Rattle.sixel_ppm.specs.declared.ppm.PpmFault.{PpmFault}
use Rattle.sixel_ppm.specs.declared.ppm.PpmFault.TheVariants.{Format, NotRgb, OutOfMemory, Read, Write}
use Rattle.sixel_ppm.specs.declared.ppm.PpmReason.{PpmReason}
use Rattle.sixel_ppm.specs.declared.ppm.header.Header.{Header}
use Rattle.sixel_ppm.specs.declared.ppm.header.Next.{Next}
use Rattle.sixel_ppm.specs.declared.ppm.header.Next.TheVariants.{More, Whole, Refused}
use Rattle.sixel_ppm.specs.declared.ppm.header.Part.{Part}
use Rattle.sixel_ppm.specs.declared.ppm.header.Part.TheVariants.{Letter, Version, AfterVersion, Filler, Comment}
use Rattle.sixel_ppm.specs.declared.ppm.header.Part.TheVariants.{Digits}
use Rattle.sixel_ppm.specs.declared.ppm.header.Progress.{Progress}
use Rattle.sixel_ppm.specs.declared.ppm.read.Started.{Started}
use Rattle.sixel_ppm.specs.declared.ppm.samples.PartialPixel.{PartialPixel}
use Rattle.sixel_ppm.specs.declared.ppm.samples.PartialPixel.TheVariants.{Nothing, Red, RedGreen}
use Rattle.sixel_ppm.specs.declared.ppm.samples.Samples.{Samples}
use Rattle.sixel_ppm.proofs.PpmHeaderLemmas.{IsInRange, MovesWithin, head_in_range, header_read, step_moves}
use Rattle.sixel_ppm.proofs.PpmSampleLemmas.{fails_then, leads_none, leads_then, short_pixel}

-- ---- the header in a piece

-- the first k bytes of a piece, the next one, and the rest
pub split_at : (xs : List ℕ) (k : ℕ) (rest : List ℕ) → k < length xs
    → xs ++ rest ≡ take k xs ++ get_or xs k 0 ∷ (drop (k + 1) xs ++ rest)
split_at xs k rest lt =
    ap (λ (t : List ℕ). t ++ rest) (sym (take-append-drop (k + 1) xs))
    ∙ append_assoc (take (k + 1) xs) (drop (k + 1) xs) rest
    ∙ ap (λ (t : List ℕ). t ++ (drop (k + 1) xs ++ rest)) (take_more xs k 0 lt)
    ∙ append_assoc (take k xs) (get_or xs k 0 ∷ []) (drop (k + 1) xs ++ rest)

-- the first k bytes of a piece were fed to a header
pub record HasFed (old now : Progress) (piece : List ℕ) (k : ℕ) : Type 0 where
  pub reads : (rest : List ℕ) → header_on old (take k piece ++ rest) ≡ header_on now rest
  pub place : now.place ≡ old.place + k
  pub within : old.place ≤ 65536 → now.place ≤ 65536

-- the step at place k
stepped : (old now : Progress) (piece : List ℕ) (k : ℕ) (rest : List ℕ) → HasFed old now piece k → k < length piece
    → header_on old (piece ++ rest) ≡ header_after (step now (get_or piece k 0)) (drop (k + 1) piece ++ rest)
stepped old now piece k rest fed lt =
    ap (header_on old) (split_at piece k rest lt) ∙ fed.reads (get_or piece k 0 ∷ (drop (k + 1) piece ++ rest))
    ∙ header_read now (get_or piece k 0) (drop (k + 1) piece ++ rest)

pub fed_more : (old now new : Progress) (piece : List ℕ) (k : ℕ) → step now (get_or piece k 0) ≡ More new
    → HasFed old now piece k
    → k < length piece → HasFed old new piece (k + 1)
fed_more old now new piece k is fed lt =
    let moved = subst (λ (x : Next). MovesWithin now x) is (step_moves now (get_or piece k 0)) in
    record {
      reads = λ rest. ap (λ (t : List ℕ). header_on old (t ++ rest)) (take_more piece k 0 lt)
          ∙ ap (header_on old) (append_assoc (take k piece) (get_or piece k 0 ∷ []) rest)
          ∙ fed.reads (get_or piece k 0 ∷ rest)
          ∙ header_read now (get_or piece k 0) rest ∙ ap (λ (x : Next). header_after x rest) is;
      place = omega (arith, moved.0, fed.place);
      within = λ h. moved.1;
    }

pub fed_whole : (old now : Progress) (header : Header) (piece : List ℕ) (k : ℕ)
    → step now (get_or piece k 0) ≡ Whole header
    → HasFed old now piece k → k < length piece → Completes old piece header (k + 1)
fed_whole old now header piece k is fed lt = record {
  reads = λ rest. stepped old now piece k rest fed lt
      ∙ ap (λ (x : Next). header_after x (drop (k + 1) piece ++ rest)) is;
  inside = omega arith;
}

pub fed_refused : (old now : Progress) (reason : PpmReason) (place : ℕ) (piece : List ℕ) (k : ℕ)
    → step now (get_or piece k 0) ≡ Refused reason place → HasFed old now piece k → k < length piece
    → (rest : List ℕ) → header_on old (piece ++ rest) ≡ at_fault reason place
fed_refused old now reason place piece k is fed lt rest =
    stepped old now piece k rest fed lt ∙ ap (λ (x : Next). header_after x (drop (k + 1) piece ++ rest)) is

-- ---- a piece

-- a result that renames the error of `told` is `Ok` if `told` is
pub answered : {E F : Type 0} (r : Result ℕ E) (told : Result ℕ F) (count : ℕ) (R : E → F → Type 0) → told ≡ Ok count
    → MatchResult r (λ n. told ≡ Ok n) (λ e. IsErrAnd told (R e)) → r ≡ Ok count
answered (Ok n) told count R is same = cc (is, same)
answered (Err e) told count R is named = absurd (subst (λ t. IsErrAnd t (R e)) is named)

-- ---- the header, piece by piece

-- what holds for the consumed bytes with any rest holds for all of the source's bytes
all_of : (a b : Option (List ℕ)) (xs : List ℕ) (P : List ℕ → Type 0) → Consumes a b xs → ((rest : List ℕ)
    → P (xs ++ rest)) → IfSome a P
all_of None b xs P c h = tt
all_of (Some a) None xs P c h = absurd c
all_of (Some a) (Some b) xs P c h = subst P (sym c) (h b)

pub header_goes_on : (old mid new : Option (List ℕ)) (progress next : Progress) (taken : List ℕ)
    → IsInHeader old mid progress
    → Consumes mid new taken → MovesOn progress next taken → IsInHeader old new next
header_goes_on old mid new progress next taken i c m = record {
  prefix = i.prefix ++ taken;
  consumed = consumes-then old mid new i.prefix taken i.consumed c;
  reads = λ rest. ap head_of (append_assoc i.prefix taken rest) ∙ i.reads (taken ++ rest) ∙ m.reads rest;
  within = m.within i.within;
}

pub header_started : (old mid new : Option (List ℕ)) (progress : Progress) (header : Header) (piece : List ℕ)
    (start count : ℕ)
    → IsInHeader old mid progress → Consumes mid new (take count piece)
    → Completes progress (take count piece) header start
    → count ≤ length piece → HasStarted old new piece (record { header = header; start = start; end = count })
header_started old mid new progress header piece start count i c w inside =
    let short = length-take-le count piece inside in
    record {
      prefix = i.prefix ++ take count piece;
      consumed = consumes-then old mid new i.prefix (take count piece) i.consumed c;
      whole = λ rest. ap head_of (append_assoc i.prefix (take count piece) rest)
          ∙ i.reads (take count piece ++ rest) ∙ w.reads rest;
      ordered = omega (arith, w.inside, short);
      inside = inside;
    }

refuses_header : (fault : PpmFault) (bytes : List ℕ) → RefusesHeader fault (head_of bytes) → ReadsHeader fault bytes
refuses_header Read bytes h = tt
refuses_header _ bytes h = h

pub header_refused : (old mid new : Option (List ℕ)) (progress : Progress) (fault : PpmFault) (taken : List ℕ)
    → IsInHeader old mid progress
    → Consumes mid new taken → ((rest : List ℕ) → RefusesHeader fault (header_on progress (taken ++ rest)))
    → IfSome old (ReadsHeader fault)
header_refused old mid new progress fault taken i c r =
    all_of old new (i.prefix ++ taken) (ReadsHeader fault) (consumes-then old mid new i.prefix taken i.consumed c)
    (λ rest.
    refuses_header fault ((i.prefix ++ taken) ++ rest)
    (subst (RefusesHeader fault) (sym (ap head_of (append_assoc i.prefix taken rest) ∙ i.reads (taken ++ rest)))
    (r rest)))

pub header_fault_counts : (A : Type 0) (fault : PpmFault) (result : Result Head PpmFault) (a b : ℕ)
    → RefusesHeader fault result → b ≡ a
    → CountsReadFault {A = A} (Err fault) a b
header_fault_counts A (Format reason place) result a b h e = e
header_fault_counts A NotRgb result a b h e = h
header_fault_counts A OutOfMemory result a b h e = absurd h
header_fault_counts A Read result a b h e = absurd h
header_fault_counts A Write result a b h e = h

-- ---- the samples, piece by piece

consumes_none : (a : Option (List ℕ)) → Consumes a a []
consumes_none None = tt
consumes_none (Some xs) = refl

pub samples_begin : (a : Option (List ℕ)) (s : Samples) → IsInSamples a a s s
samples_begin a s = record { prefix = []; consumed = consumes_none a; leads = leads_none s }

pub samples_go_on : (old mid new : Option (List ℕ)) (s t u : Samples) (taken : List ℕ) → IsInSamples old mid s t
    → Consumes mid new taken
    → LeadsOn t u taken → IsInSamples old new s u
samples_go_on old mid new s t u taken i c f = record {
  prefix = i.prefix ++ taken;
  consumed = consumes-then old mid new i.prefix taken i.consumed c;
  leads = leads_then s t u i.prefix taken i.leads f;
}

refuses_rest : (fault : PpmFault) (result : Result PictureValue PpmFault) → Refuses fault result
    → ReadsRest (Err fault) result
refuses_rest Read result h = tt
refuses_rest _ result h = h

pub samples_refused : (old mid new : Option (List ℕ)) (s t : Samples) (fault : PpmFault) (taken : List ℕ)
    → IsInSamples old mid s t
    → Consumes mid new taken → FailsOn t fault taken → (colours : List Parts) → Holds s colours
    → IfSome old (λ rest. ReadsRest (Err fault) (samples_on s colours rest))
samples_refused old mid new s t fault taken i c f = λ colours holds.
    all_of old new (i.prefix ++ taken) (λ rest. ReadsRest (Err fault) (samples_on s colours rest))
    (consumes-then old mid new i.prefix taken i.consumed c)
    (λ rest. refuses_rest fault (samples_on s colours ((i.prefix ++ taken) ++ rest))
    (fails_then s t fault (i.prefix ++ taken) i.prefix taken refl i.leads f colours holds rest))

pub samples_fault_counts : (A : Type 0) (s : Samples) (fault : PpmFault) (taken : List ℕ) (a b : ℕ)
    → ((colours : List Parts) × Holds s colours)
    → FailsOn s fault taken → b ≡ a → CountsReadFault {A = A} (Err fault) a b
samples_fault_counts A s (Format reason place) taken a b held f e = e
samples_fault_counts A s NotRgb taken a b held f e = f held.0 held.1 []
samples_fault_counts A s OutOfMemory taken a b held f e = absurd (f held.0 held.1 [])
samples_fault_counts A s Read taken a b held f e = absurd (f held.0 held.1 [])
samples_fault_counts A s Write taken a b held f e = f held.0 held.1 []

pub holds_on : (old new : Option (List ℕ)) (s t : Samples) → IsInSamples old new s t
    → ((colours : List Parts) × Holds s colours)
    → (colours : List Parts) × Holds t colours
holds_on old new s t i held = let p = i.leads held.0 held.1 in (p.0, p.1)

finished_rest : (t : Samples) (result : Result PictureValue PpmFault) (colours : List Parts) → Holds t colours
    → IfOk result (λ p. (colours : List Parts) → Holds t colours → samples_on t colours [] ≡ Ok p)
    → IfErr result (λ fault. (colours : List Parts) → Holds t colours → Refuses fault (samples_on t colours []))
    → ReadsRest result (samples_on t colours [])
finished_rest t (Ok p) colours holds w f = w colours holds
finished_rest t (Err fault) colours holds w f = refuses_rest fault (samples_on t colours []) (f colours holds)

pub samples_finished : (old new : Option (List ℕ)) (s t : Samples) (result : Result PictureValue PpmFault)
    → IsInSamples old new s t
    → IsAtEnd new
    → IfOk result (λ p. (colours : List Parts) → Holds t colours → samples_on t colours [] ≡ Ok p)
    → IfErr result (λ fault. (colours : List Parts) → Holds t colours → Refuses fault (samples_on t colours []))
    → (colours : List Parts) → Holds s colours → IfSome old (λ rest. ReadsRest result (samples_on s colours rest))
samples_finished old new s t result i end w f = λ colours holds.
    let p = i.leads colours holds in
    all_read old new i.prefix (λ rest. ReadsRest result (samples_on s colours rest)) i.consumed end
    (subst (λ (r : Result PictureValue PpmFault). ReadsRest result r)
    (sym (ap (samples_on s colours) (sym (append-nil i.prefix)) ∙ p.2 [])) (finished_rest t result p.0 p.1 w f))

-- no more bytes were read
pub in_samples_still : (old mid new : Option (List ℕ)) (s t : Samples) (taken : List ℕ) → taken ≡ []
    → IsInSamples old mid s t
    → Consumes mid new taken → IsInSamples old new s t
in_samples_still old mid new s t taken none i c =
    samples_go_on old mid new s t t taken i c (subst (λ (xs : List ℕ). LeadsOn t t xs) (sym none) (leads_none t))

-- ---- the whole

started_in_range : (old new : Option (List ℕ)) (piece : List ℕ) (s : Started) → HasStarted old new piece s
    → IsInRange (head_with s.header (drop s.start (take s.end piece) ++ []))
started_in_range old new piece s h = subst (λ (r : Result Head PpmFault). IfOk r IsInRange) (h.whole [])
    (head_in_range (h.prefix ++ []))

pub started_sides : (old new : Option (List ℕ)) (piece : List ℕ) (s : Started) → HasStarted old new piece s
    → (is_side s.header.width && is_side s.header.height) ≡ true
started_sides old new piece s h = let r = started_in_range old new piece s h in ap₂ (λ (a b : Bool). a && b) r.wide
    r.high

positive : (n : ℕ) → is_within n 255 ≡ true → 0 < n
positive n e = grind (arith, nat_tests)

pub started_scaled : (old new : Option (List ℕ)) (piece : List ℕ) (s : Started) → HasStarted old new piece s
    → 0 < s.header.maxval
started_scaled old new piece s h = positive s.header.maxval (started_in_range old new piece s h).scaled

pub started_within : (old new : Option (List ℕ)) (piece : List ℕ) (s : Started) → HasStarted old new piece s
    → s.header.place ≤ 65536
started_within old new piece s h = (started_in_range old new piece s h).within

begins_reads : (count : ℕ) (f : Header) (s : Samples) (xs : List ℕ) → Begins count f s
    → picture_after count (head_with f xs) ≡ samples_on s [] xs
begins_reads count f s xs b = rw (b.registers, b.maxval, b.left, b.place, b.partial, b.width, b.height) refl

-- reading all bytes, by reading the samples
said : (count : ℕ) (old new : Option (List ℕ)) (piece : List ℕ) (s : Started) (t : Samples) (rest : List ℕ)
    → (h : HasStarted old new piece s)
    → Begins count s.header t
    → ppm_read count (h.prefix ++ rest) ≡ samples_on t [] (drop s.start (take s.end piece) ++ rest)
said count old new piece s t rest h b =
    ap (λ (x : Result Head PpmFault). x >>= picture_after count) (h.whole rest)
    ∙ begins_reads count s.header t (drop s.start (take s.end piece) ++ rest) b

whole_header : (bytes : List ℕ) (h : Head) → head_of bytes ≡ Ok h → HasWholeHeader bytes
whole_header bytes h e = subst (λ (x : Result Head PpmFault). IsOk x) (sym e) refl

rest_reads : (count : ℕ) (result : Result PictureValue PpmFault) (bytes : List ℕ) (r : Result PictureValue PpmFault)
    → ppm_read count bytes ≡ r
    → HasWholeHeader bytes → ReadsRest result r → ReadsPpm count result bytes
rest_reads count (Ok p) bytes r e whole h = e ∙ h
rest_reads count (Err (Format reason place)) bytes r e whole h = e ∙ h
rest_reads count (Err OutOfMemory) bytes r e whole h = absurd h
rest_reads count (Err Read) bytes r e whole h = tt
rest_reads count (Err NotRgb) bytes r e whole h = h
rest_reads count (Err Write) bytes r e whole h = h

pub ppm_refused : (count : ℕ) (old new : Option (List ℕ)) (piece : List ℕ) (s : Started) (t : Samples)
    (fault : PpmFault)
    (samples : List ℕ)
    → samples ≡ drop s.start (take s.end piece) → HasStarted old new piece s → Begins count s.header t
    → FailsOn t fault samples
    → IfSome old (ReadsPpm count (Err fault))
ppm_refused count old new piece s t fault samples e h b f =
    all_of old new h.prefix (ReadsPpm count (Err fault)) h.consumed (λ rest.
    rest_reads count (Err fault) (h.prefix ++ rest) (samples_on t [] (samples ++ rest))
    (said count old new piece s t rest h b ∙ ap (λ (xs : List ℕ). samples_on t [] (xs ++ rest)) (sym e))
    (whole_header (h.prefix ++ rest) _ (h.whole rest))
    (refuses_rest fault (samples_on t [] (samples ++ rest)) (f [] b.holds rest)))

-- what holds for the bytes that the source has left gives what holds for all
left_reads : (old new : Option (List ℕ)) (xs : List ℕ) (P Q : List ℕ → Type 0) → Consumes old new xs → IfSome new Q
    → ((rest : List ℕ) → Q rest → P (xs ++ rest)) → IfSome old P
left_reads None new xs P Q c q f = tt
left_reads (Some a) None xs P Q c q f = absurd c
left_reads (Some a) (Some b) xs P Q c q f = subst P (sym c) (f b q)

pub ppm_finished : (count : ℕ) (old new : Option (List ℕ)) (piece : List ℕ) (s : Started) (t u : Samples)
    (result : Result PictureValue PpmFault)
    (samples : List ℕ) → samples ≡ drop s.start (take s.end piece) → HasStarted old new piece s
    → Begins count s.header t
    → LeadsOn t u samples
    → ((colours : List Parts) → Holds u colours → IfSome new (λ rest. ReadsRest result (samples_on u colours rest)))
    → IfSome old (ReadsPpm count result)
ppm_finished count old new piece s t u result samples e h b f r =
    let p = f [] b.holds in
    left_reads old new h.prefix (ReadsPpm count result) (λ rest. ReadsRest result (samples_on u p.0 rest)) h.consumed
    (r p.0 p.1) (λ rest q.
    rest_reads count result (h.prefix ++ rest) (samples_on u p.0 rest)
    (said count old new piece s t rest h b ∙ ap (λ (xs : List ℕ). samples_on t [] (xs ++ rest)) (sym e) ∙ p.2 rest)
    (whole_header (h.prefix ++ rest) _ (h.whole rest)) q)

-- a range of a piece
pub between : (start end : ℕ) (xs : List ℕ) → start ≤ end
    → take (end - start) (drop start xs) ≡ drop start (take end xs)
between start end xs le =
    sym (drop-take start (end - start) xs) ∙ ap (λ (n : ℕ). drop start (take n xs)) (omega arith)

-- ---- a read that fails

-- where a result that renames the error of `r` is an error, what holds at an error of `r` does
pub kept_by : {E F : Type 0} (r : Result ℕ E) (told : Result ℕ F) (fault : F) (R : E → F → Type 0) (P : ℕ → Type 0)
    (K : Type 0) → told ≡ Err fault
    → MatchResult r (λ n. told ≡ Ok n) (λ e. IsErrAnd told (R e)) → MatchResult r P (λ e. K) → K
kept_by (Ok n) told fault R P K is same kept = absurd (cc (is, same))
kept_by (Err e) told fault R P K is named kept = kept

-- no fault of the samples is a failed read
pub never_read : {A : Type 0} (s : Samples) (fault : PpmFault) (taken : List ℕ)
    → ((colours : List Parts) × Holds s colours) → FailsOn s fault taken → fault ≡ Read → A
never_read s fault taken held f is =
    absurd (subst (λ (x : PpmFault). FailsOn s x taken) is f held.0 held.1 [])

header_in_goes_on : (part : Part) (p : Progress) (k : Head → Result PictureValue PpmFault)
    → MayGoOn (header_in part p [] >>= k)
header_in_goes_on Letter p k = tt
header_in_goes_on Version p k = tt
header_in_goes_on AfterVersion p k = tt
header_in_goes_on (Filler field) p k = tt
header_in_goes_on (Comment field) p k = tt
header_in_goes_on (Digits field) p k = tt

-- the read failed within the header
pub header_unread : (old mid new : Option (List ℕ)) (progress : Progress) → IsInHeader old mid progress
    → Keeps mid new
    → (registers : ℕ) → IfSome old (NoPpmFaultBefore (ppm_read registers) new)
header_unread None mid new progress i kept registers = tt
header_unread (Some a) mid new progress i kept registers = (
  i.prefix,
  consumes-kept (Some a) mid new i.prefix i.consumed kept,
  subst MayGoOn
      (sym (ap (λ (x : Result Head PpmFault). x >>= picture_after registers)
      (ap head_of (sym (append-nil i.prefix)) ∙ i.reads [])))
      (header_in_goes_on progress.part progress (picture_after registers)),
)

pixels_go_on : (count maxval n at : ℕ) (colours : List Parts) (partial : PartialPixel)
    (k : List Parts → PictureValue)
    → is_good partial maxval n ≡ true
    → MayGoOn (pixels count maxval n colours at (partial_samples partial ++ []) >>= (λ all. Ok (k all)))
pixels_go_on count maxval zero at colours Nothing k good = tt
pixels_go_on count maxval zero at colours (Red red) k good = let none : false ≡ true = good in absurd (cc)
pixels_go_on count maxval zero at colours (RedGreen red green) k good = let none : false ≡ true = good in absurd (cc)
pixels_go_on count maxval (suc n) at colours partial k good =
    rw (short_pixel count maxval (suc n) at colours partial (omega arith) good) tt

-- the read failed within the samples
pub samples_unread : (old mid new : Option (List ℕ)) (s t : Samples) → IsInSamples old mid s t
    → is_good t.partial t.maxval t.left ≡ true
    → Keeps mid new → (colours : List Parts) → Holds s colours
    → IfSome old (NoPpmFaultBefore (samples_on s colours) new)
samples_unread None mid new s t i good kept colours holds = tt
samples_unread (Some a) mid new s t i good kept colours holds =
    let p = i.leads colours holds in (
      i.prefix,
      consumes-kept (Some a) mid new i.prefix i.consumed kept,
      subst MayGoOn (sym (ap (samples_on s colours) (sym (append-nil i.prefix)) ∙ p.2 []))
          (pixels_go_on (registers_in t) t.maxval t.left t.place p.0 t.partial
          (picture_of (registers_in t) t.width t.height) good),
    )

-- the read failed after the piece with the end of the header
pub ppm_unread : (count : ℕ) (old mid new : Option (List ℕ)) (piece : List ℕ) (s : Started) (t u : Samples)
    (samples : List ℕ) → samples ≡ drop s.start (take s.end piece) → HasStarted old mid piece s
    → Begins count s.header t
    → LeadsOn t u samples
    → ((colours : List Parts) → Holds u colours → IfSome mid (NoPpmFaultBefore (samples_on u colours) new))
    → IfSome old (NoPpmFaultBefore (ppm_read count) new)
ppm_unread count None mid new piece s t u samples e h b f r = tt
ppm_unread count (Some a) None new piece s t u samples e h b f r = absurd h.consumed
ppm_unread count (Some a) (Some m) new piece s t u samples e h b f r =
    let p = f [] b.holds in
    let n = r p.0 p.1 in (
      h.prefix ++ n.0,
      consumes-then (Some a) (Some m) new h.prefix n.0 h.consumed n.1,
      subst MayGoOn
          (sym (said count (Some a) (Some m) piece s t n.0 h b
          ∙ ap (λ (xs : List ℕ). samples_on t [] (xs ++ n.0)) (sym e) ∙ p.2 n.0))
          n.2,
    )
