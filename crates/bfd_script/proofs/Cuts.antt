-- Where a text is cut at a byte.
use Rattle.bfd_script.proofs.FieldsCommon.{◌≡◌, ℕ, ◌+◌, ◌-◌, ◌<◌, ◌≤◌, ◌==◌, not, cond, Bool, true, false, List, [], ◌∷◌, ◌++◌, length, map}
use Rattle.bfd_script.proofs.FieldsCommon.{take, drop, refl, ◌∙◌, sym, arith, subst, zero, suc, slice_index, onto_first, position_or_len}
use Rattle.bfd_script.proofs.FieldsCommon.{slice_split, append-nil, length-drop, length-take-le, drop-drop, false_from_ne_true}
use Rattle.bfd_script.proofs.FieldsCommon.{position_or_len_is, prefix_len-le-length, NoneBefore, Nowhere, Passes, is_byte}
use Rattle.std.proofs.lemmas.List.Splits.{slice_split_first}

-- ---- the first such byte

found : (p : ℕ → Bool) (text : List ℕ) {place : ℕ} → place ≤ length text → Nowhere (Passes p text) 0 place
    → (place < length text → p (slice_index text place) ≡ true) → position_or_len p text ≡ place
found p text {place} within none here =
    position_or_len_is p text place 0 within (λ k l. false_from_ne_true (p (slice_index text k)) (none k (omega arith) l)) here

-- a search that finds one
pub at_place : (byte : ℕ) (text : List ℕ) (place : ℕ) → NoneBefore (Passes (is_byte byte) text) 0 (length text) place
    × Passes (is_byte byte) text place
    → place ≡ position_or_len (λ other. other == byte) text
at_place byte text place f = sym (found (is_byte byte) text (omega (arith, f.0.high)) f.0.before (λ _. f.1))

-- a search that finds none
pub at_end : (byte : ℕ) (text : List ℕ) → Nowhere (Passes (is_byte byte) text) 0 (length text)
    → length text ≡ position_or_len (λ other. other == byte) text
at_end byte text absent = sym (found (is_byte byte) text (omega arith) absent (λ l. absurd (omega (arith, l))))

near_step : (here : Bool) {a b n : ℕ} → cond (not here) (1 + a) 0 < suc n → (a < n → a ≡ b)
    → cond (not here) (1 + a) 0 ≡ cond (not here) (1 + b) 0
near_step true l known = refl
near_step false l known = cc (known (omega (arith, l)))

in_front : (p : ℕ → Bool) (text : List ℕ) (n : ℕ) → position_or_len p (take n text) < n
    → position_or_len p (take n text) ≡ position_or_len p text
in_front p text zero l = absurd (omega (arith, l))
in_front p [] (suc n) l = refl
in_front p (byte ∷ text) (suc n) l = near_step (p byte) l (in_front p text n)

-- one that is near stands in the front
pub near : (byte : ℕ) (text run : List ℕ) (n place : ℕ) → run ≡ take n text → place ≡ position_or_len (λ other. other == byte) run
    → place < n
    → place ≡ position_or_len (λ other. other == byte) text
near byte text run n place front e l =
    let P : ℕ → Bool = λ other. other == byte in
    let at : place ≡ position_or_len P (take n text) = cc in
    at ∙ in_front P text n (subst (λ t. t < n) at l)

past_step : (here : Bool) (a b c n : ℕ) → cond (not here) (1 + a) 0 ≡ suc n → (a ≡ n → b ≡ n + c) → cond (not here) (1 + b) 0 ≡ suc n + c
past_step true a b c n e known = absurd (omega (arith, e))
past_step false a b c n e known = omega (arith, known (omega (arith, e)))

-- past a front that has none
past_front : (p : ℕ → Bool) (n : ℕ) (text : List ℕ) → n ≤ length text → position_or_len p (take n text) ≡ n
    → position_or_len p text ≡ n + position_or_len p (drop n text)
past_front p zero text long e = omega arith
past_front p (suc n) [] long e = absurd (omega (arith, long))
past_front p (suc n) (byte ∷ text) long e = past_step (p byte) _ _ (position_or_len p (drop n text)) n e
    (past_front p n text (omega (arith, long)))

none_step : (here : Bool) (a n : ℕ) → cond (not here) (1 + a) 0 ≡ suc n → a ≡ n
none_step true a n e = absurd (omega (arith, e))
none_step false a n e = omega (arith, e)

-- what has none has none behind some bytes
none_behind : (p : ℕ → Bool) (n : ℕ) (text : List ℕ) → position_or_len p text ≡ length text
    → position_or_len p (drop n text) ≡ length (drop n text)
none_behind p zero text e = e
none_behind p (suc n) [] e = refl
none_behind p (suc n) (byte ∷ text) e = none_behind p n text (none_step (p byte) _ _ e)

-- neither this prefix of a text nor this suffix has one, and they are all of it
pub in_neither : (byte : ℕ) (text : List ℕ) {run : List ℕ} → 32 ≤ length text → length text ≤ 64 → run ≡ take 32 text
    → 32 ≤ position_or_len (λ other. other == byte) run → 32 ≤ position_or_len (λ other. other == byte) (drop (length text - 32) text)
    → length text ≡ position_or_len (λ other. other == byte) text
in_neither byte text {run} least most front none behind =
    let p : ℕ → Bool = λ other. other == byte in
    let m : ℕ = length text - 32 in
    let end : List ℕ = drop m text in
    let long : length end ≡ 32 = omega (arith, length-drop m text, least) in
    let all : position_or_len p end ≡ length end = omega (arith, behind, long, prefix_len-le-length (λ other. not (p other)) end) in
    let first : position_or_len p (take 32 text) ≡ 32 =
    omega (
      arith,
      subst (λ r. 32 ≤ position_or_len p r) front none,
      length-take-le 32 text least,
      prefix_len-le-length (λ other. not (p other)) (take 32 text),
    ) in
    let sum : m + (32 - m) ≡ 32 = omega (arith, most) in
    let rest : position_or_len p (drop 32 text) ≡ length (drop 32 text) = cc (drop-drop (32 - m) m text, none_behind p (32 - m) end all) in
    omega (arith, past_front p 32 text least first, rest, length-drop 32 text, least)

-- ---- one cut

one_part_step : (here : Bool) (byte at n : ℕ) (bytes : List ℕ) (parts : List (List ℕ)) → cond (not here) (1 + at) 0 ≡ 1 + n
    → (at ≡ n → parts ≡ bytes ∷ [])
    → cond here ([] ∷ parts) (onto_first byte parts) ≡ (byte ∷ bytes) ∷ []
one_part_step true byte at n bytes parts e known = absurd (omega (arith, e))
one_part_step false byte at n bytes parts e known = cc (known (omega (arith, e)))

one_by : (p : ℕ → Bool) (text : List ℕ) → position_or_len p text ≡ length text → slice_split p text ≡ text ∷ []
one_by p [] e = refl
one_by p (byte ∷ bytes) e =
    let n : length (byte ∷ bytes) ≡ 1 + length bytes = omega arith in
    one_part_step (p byte) byte (position_or_len p bytes) (length bytes) bytes (slice_split p bytes) (cc) (one_by p bytes)

-- a text without such a byte is its one part
pub one_part : (byte : ℕ) (text : List ℕ) {place : ℕ} → place ≡ position_or_len (λ other. other == byte) text → length text ≤ place
    → slice_split (λ other. other == byte) text ≡ text ∷ []
one_part byte text e long =
    let P : ℕ → Bool = λ other. other == byte in
    let most = prefix_len-le-length (λ other. not (other == byte)) text in
    one_by P text (omega (arith, e, long, most))

-- a text with such a byte has a part before the first, and what stands behind that
pub two_parts : (byte : ℕ) (text : List ℕ) {place : ℕ} → place ≡ position_or_len (λ other. other == byte) text → place < length text
    → (slice_split (λ other. other == byte) text ≡ take place text ∷ slice_split (λ other. other == byte) (drop (place + 1) text))
    × (length (drop (place + 1) text) < length text)
two_parts byte text {place} e inside =
    let P : ℕ → Bool = λ other. other == byte in
    (slice_split_first P text 0 (rw (← e) inside) ∙ rw e refl, omega (arith, inside, length-drop (place + 1) text))

-- ---- one part after another

seen : {X : Type 0} (view : X → List ℕ) (parts : List X) {part : X} {text rest : List (List ℕ)} → text ≡ view part ∷ rest
    → map view (parts ++ part ∷ []) ++ rest ≡ map view parts ++ text
seen view [] e = sym e
seen view (first ∷ parts) e = cc (seen view parts e)

-- one more part is seen
pub next_part : {X : Type 0} (view : X → List ℕ) (parts more : List X) (part : X) (text rest line : List (List ℕ))
    → more ≡ parts ++ part ∷ []
    → text ≡ view part ∷ rest → map view parts ++ text ≡ line → map view more ++ rest ≡ line
next_part view parts more part text rest line m e known = rw m (seen view parts e ∙ known)

-- the last part is seen
pub last_part : {X : Type 0} (view : X → List ℕ) (parts more : List X) (part : X) (text line : List (List ℕ)) → more ≡ parts ++ part ∷ []
    → text ≡ view part ∷ [] → map view parts ++ text ≡ line → map view more ≡ line
last_part view parts more part text line m e known =
    sym (append-nil (map view more)) ∙ next_part view parts more part text [] line m e known
