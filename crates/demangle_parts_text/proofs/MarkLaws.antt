-- Laws on marks: which nodes end among them, and the items at the front of a text.
use Rattle.std.proofs.Common.{◌≡◌, ℕ, zero, suc, ◌+◌, ◌-◌, ◌≤◌, ◌<◌, ◌&&◌, Bool, true, false, List, [], ◌∷◌, ◌++◌}
use Rattle.std.proofs.Common.{length, take, drop, get_or, map, refl, sym, ap, ◌∙◌, arith, Some, None, append_assoc}
use Rattle.std.proofs.Common.{take-append-drop}
use Rattle.std.proofs.lemmas.Grind.{common_steps}
use Rattle.std.proofs.Math.Seq.{take-add, take-suc}
use Rattle.std.specs.Prelude.{Option, is_some}
use Rattle.demangle_printing.specs.Laws.{AreClosed, closes, open_behind}
use Rattle.demangle_printing.specs.Outcome.{text_of}
use Rattle.demangle_printing.specs.State.{Event, byte, opened, closed}
use Rattle.demangle_meets.specs.Seen.{Call, piece, begins, ends, events_of}
use Rattle.demangle_context.specs.Kinds.{kind_of}
use Rattle.demangle_context.specs.declared.listener.DemangleNodeType.{DemangleNodeType}
use Rattle.demangle_parts_text.specs.Heard.{calls, sizes}
use Rattle.demangle_parts_text.specs.Items.{Items, byte_before, items, levels, node, none, text, text_in}
use Rattle.demangle_parts_text.specs.Marks.{all_end, are_pieces, begin_chars, begins_char, begins_with_piece, ended}
use Rattle.demangle_parts_text.specs.Marks.{items_of, one_less, one_more, open_marks}
use Rattle.demangle_parts_text.specs.Walk.{not_text, with_text}
use Rattle.demangle_parts_text.specs.declared.mark.Mark.{Mark}
use Rattle.demangle_parts_text.specs.declared.mark.Mark.TheVariants as mark
use Rattle.demangle_parts_text.proofs.HeardLaws.{sizes-append}
use Rattle.demangle_parts_text.proofs.ItemLaws.{bytes_before, keeps, node-front, text-front, within-front}

-- ---- one more mark
open-none : (ms : List Mark) → open_marks ms None ≡ None
unfolding open_marks
open-none [] = refl
open-none (m ∷ ms) = refl

pub open-append : (ms ns : List Mark) (n : Option ℕ) → open_marks (ms ++ ns) n ≡ open_marks ns (open_marks ms n)
unfolding open_marks
open-append [] ns n = refl
open-append (m ∷ ms) ns None = sym (open-none ns)
open-append (mark.Piece k ∷ ms) ns (Some n) = open-append ms ns (Some n)
open-append (mark.Begins k ∷ ms) ns (Some n) = open-append ms ns (Some (suc n))
open-append (mark.Ends ∷ ms) ns (Some n) = open-append ms ns (closes n)

take-more : (ms : List Mark) (i : ℕ) (m d : Mark) → i < length ms → get_or ms i d ≡ m
    → take (i + 1) ms ≡ take i ms ++ m ∷ []
take-more ms i m d within e =
    ap (λ n. take n ms) (let s : i + 1 ≡ suc i = omega arith in s) ∙ take-suc ms i d within
    ∙ ap (λ x. take i ms ++ x ∷ []) e

pub size-more : (ms : List Mark) (i : ℕ) (m d : Mark) (n : ℕ) → i < length ms → get_or ms i d ≡ m
    → sizes (take i ms) ≡ n → sizes (take (i + 1) ms) ≡ n + sizes (m ∷ [])
size-more ms i m d n within e h =
    ap sizes (take-more ms i m d within e) ∙ sizes-append (take i ms) (m ∷ []) ∙ ap (λ k. k + sizes (m ∷ [])) h

pub open-more : (ms : List Mark) (i : ℕ) (m d : Mark) (n : Option ℕ) → i < length ms → get_or ms i d ≡ m
    → open_marks (take i ms) (Some zero) ≡ n → open_marks (take (i + 1) ms) (Some zero) ≡ open_marks (m ∷ []) n
open-more ms i m d n within e h =
    ap (λ l. open_marks l (Some zero)) (take-more ms i m d within e) ∙ open-append (take i ms) (m ∷ []) (Some zero)
    ∙ ap (open_marks (m ∷ [])) h

-- the pieces so far and the next one are within all of them
pub size-within : (ms : List Mark) (i k : ℕ) (d : Mark) (n : ℕ) → i < length ms → get_or ms i d ≡ mark.Piece k
    → sizes (take i ms) ≡ n → n + k ≤ sizes ms
unfolding sizes
size-within ms i k d n within e h =
    let one : sizes (take (i + 1) ms) ≡ n + (k + 0) = size-more ms i (mark.Piece k) d n within e h in
    let whole : sizes (take (i + 1) ms) + sizes (drop (i + 1) ms) ≡ sizes ms =
    sym (sizes-append (take (i + 1) ms) (drop (i + 1) ms)) ∙ ap sizes (take-append-drop (i + 1) ms) in
    omega arith

-- ---- the calls of marks
calls-append : (t : List ℕ) (ms ns : List Mark) → calls t (ms ++ ns) ≡ calls t ms ++ calls (drop (sizes ms) t) ns
unfolding calls sizes
calls-append t [] ns = refl
calls-append t (mark.Piece n ∷ ms) ns =
    let further : drop (sizes ms) (drop n t) ≡ drop (n + sizes ms) t = grind (arith, common_steps) in
    ap (λ l. piece (take n t) ∷ l) (calls-append (drop n t) ms ns ∙ ap (λ l. calls (drop n t) ms ++ calls l ns) further)
calls-append t (mark.Begins k ∷ ms) ns = ap (λ l. begins (kind_of k) ∷ l) (calls-append t ms ns)
calls-append t (mark.Ends ∷ ms) ns = ap (λ l. ends ∷ l) (calls-append t ms ns)

events-append : (cs ds : List Call) → events_of (cs ++ ds) ≡ events_of cs ++ events_of ds
events-append [] ds = refl
events-append (piece bs ∷ cs) ds =
    ap (λ l. map byte bs ++ l) (events-append cs ds) ∙ sym (append_assoc (map byte bs) (events_of cs) (events_of ds))
events-append (begins k ∷ cs) ds = ap (λ l. opened k ∷ l) (events-append cs ds)
events-append (ends ∷ cs) ds = ap (λ l. closed ∷ l) (events-append cs ds)

-- bytes open and close nothing
open-bytes : (bs : List ℕ) (es : List Event) (n : ℕ) → open_behind (map byte bs ++ es) (Some n) ≡ open_behind es
    (Some n)
open-bytes [] es n = refl
open-bytes (b ∷ bs) es n = open-bytes bs es n

open-nothing : (es : List Event) → open_behind es None ≡ None
open-nothing [] = refl
open-nothing (e ∷ es) = refl

pub opens : (t : List ℕ) (ms : List Mark) (n : Option ℕ) → open_behind (events_of (calls t ms)) n ≡ open_marks ms n
unfolding calls open_marks
opens t [] n = refl
opens t (m ∷ ms) None = open-nothing (events_of (calls t (m ∷ ms)))
opens t (mark.Piece k ∷ ms) (Some n) =
    open-bytes (take k t) (events_of (calls (drop k t) ms)) n ∙ opens (drop k t) ms (Some n)
opens t (mark.Begins k ∷ ms) (Some n) = opens t ms (Some (suc n))
opens t (mark.Ends ∷ ms) (Some n) = opens t ms (closes n)

-- nodes that stand open before are left alone
lifts : (ms : List Mark) (n m k : ℕ) → open_marks ms (Some n) ≡ Some m → open_marks ms (Some (n + k)) ≡ Some (m + k)
unfolding open_marks
lifts [] n m k e = let same : n ≡ m = cc in ap (λ x. Some (x + k)) same
lifts (mark.Piece j ∷ ms) n m k e = lifts ms n m k e
lifts (mark.Begins j ∷ ms) n m k e =
    let next : suc (n + k) ≡ suc n + k = omega arith in
    ap (λ x. open_marks ms (Some x)) next ∙ lifts ms (suc n) m k e
lifts (mark.Ends ∷ ms) zero m k e = absurd (let none = open-none ms in cc)
lifts (mark.Ends ∷ ms) (suc n) m k e =
    let next : suc n + k ≡ suc (n + k) = omega arith in
    ap (λ x. open_marks ms (closes x)) next ∙ lifts ms n m k e

pub lift-one : (ms : List Mark) → open_marks ms (Some zero) ≡ Some zero → open_marks ms (Some 1) ≡ Some 1
lift-one ms e = lifts ms zero zero 1 e

pub closed-marks : (t : List ℕ) (ms : List Mark) → open_marks ms (Some zero) ≡ Some zero
    → AreClosed (events_of (calls t ms))
closed-marks t ms e n =
    let zeros : zero + n ≡ n = omega arith in
    opens t ms (Some n) ∙ ap (λ x. open_marks ms (Some x)) (sym zeros) ∙ lifts ms zero zero n e ∙ ap (λ x. Some x) zeros

pub closes-some : (n : ℕ) → 0 < n → closes n ≡ Some (n - 1)
closes-some zero some = absurd (omega arith)
closes-some (suc m) some = ap (λ x. Some x) (let e : m ≡ suc m - 1 = omega arith in e)

-- ---- which nodes end
pub less-some : (o : Option ℕ) (k : ℕ) → one_less o ≡ Some k → o ≡ Some (suc k)
less-some None k e = absurd cc
less-some (Some zero) k e = absurd cc
less-some (Some (suc n)) k e = let same : n ≡ k = cc in ap (λ x. Some (suc x)) same

record Before (o : Option ℕ) (k : ℕ) : Type 0 where
  less : ℕ
  is : o ≡ Some less
  more : k ≡ suc less

more-some : (o : Option ℕ) (k : ℕ) → one_more o ≡ Some k → Before o k
more-some None k e = absurd cc
more-some (Some n) k e = record { less = n; is = refl; more = (let same : suc n ≡ k = cc in sym same) }

pub some-of : (o : Option ℕ) → is_some o ≡ true → (n : ℕ) × (o ≡ Some n)
some-of None e = absurd cc
some-of (Some n) e = (n, refl)

-- so many of those that stood open before end, and so many are open behind them
pub count-open : (ms : List Mark) (n j k : ℕ) → open_marks ms (Some n) ≡ Some j → ended ms ≡ Some k → k + j ≡ n
unfolding open_marks ended
count-open [] n j k e f = let a : n ≡ j = cc in let b : 0 ≡ k = cc in omega arith
count-open (mark.Piece i ∷ ms) n j k e f = count-open ms n j k e f
count-open (mark.Begins i ∷ ms) n j k e f =
    let h = count-open ms (suc n) j (suc k) e (less-some (ended ms) k f) in omega arith
count-open (mark.Ends ∷ ms) zero j k e f = absurd (let none' = open-none ms in cc)
count-open (mark.Ends ∷ ms) (suc n) j k e f =
    let b = more-some (ended ms) k f in
    let h = count-open ms n j b.less e b.is in
    let m = b.more in
    omega arith

pub ended-open : (ms : List Mark) (n : ℕ) → open_marks ms (Some n) ≡ Some zero → ended ms ≡ Some n
unfolding open_marks ended
ended-open [] n e = let a : n ≡ zero = cc in ap (λ x. Some x) (sym a)
ended-open (mark.Piece i ∷ ms) n e = ended-open ms n e
ended-open (mark.Begins i ∷ ms) n e = ap one_less (ended-open ms (suc n) e)
ended-open (mark.Ends ∷ ms) zero e = absurd (let none' = open-none ms in cc)
ended-open (mark.Ends ∷ ms) (suc n) e = ap one_more (ended-open ms n e)

-- where a node ends, of which so many are open
pub record EndsIn (ms : List Mark) (n : ℕ) : Type 0 where
  pub within : List Mark
  pub behind : List Mark
  pub is : ms ≡ within ++ mark.Ends ∷ behind
  pub closes : open_marks within (Some n) ≡ Some zero

one-more : (m : Mark) (ms : List Mark) (n k : ℕ) (e : EndsIn ms k) → open_marks (m ∷ e.within) (Some n) ≡ Some zero
    → EndsIn (m ∷ ms) n
one-more m ms n k e c = record {
  within = m ∷ e.within;
  behind = e.behind;
  is = ap (λ l. m ∷ l) e.is;
  closes = c;
}

pub never-open : (ms : List Mark) (i count : ℕ) → length ms ≤ i → open_marks (take i ms) (Some zero) ≡ Some count
    → is_some (one_less (ended ms)) ≡ true → ⊥
never-open ms i count past e s =
    let all : take i ms ≡ ms = grind (arith, common_steps) in
    let some = some-of (one_less (ended ms)) s in
    let h = count-open ms zero count (suc some.0) (sym (ap (λ l. open_marks l (Some zero)) all) ∙ e)
    (less-some (ended ms) some.0 some.1) in
    absurd (omega arith)

ends-in : (ms : List Mark) (n k : ℕ) → ended ms ≡ Some (suc (n + k)) → EndsIn ms n
unfolding open_marks ended
ends-in [] n k e = absurd cc
ends-in (mark.Piece i ∷ ms) n k e = let h = ends-in ms n k e in one-more (mark.Piece i) ms n n h h.closes
ends-in (mark.Begins i ∷ ms) n k e =
    let more : suc (suc (n + k)) ≡ suc (suc n + k) = omega arith in
    let h = ends-in ms (suc n) k (less-some (ended ms) (suc (n + k)) e ∙ ap (λ x. Some x) more) in
    one-more (mark.Begins i) ms n (suc n) h h.closes
ends-in (mark.Ends ∷ ms) zero k e = record { within = []; behind = ms; is = refl; closes = refl }
ends-in (mark.Ends ∷ ms) (suc n) k e =
    let b = more-some (ended ms) (suc (suc n + k)) e in
    let m = b.more in
    let less : b.less ≡ suc (n + k) = omega arith in
    let h = ends-in ms n k (b.is ∙ ap (λ x. Some x) less) in
    one-more mark.Ends ms (suc n) n h h.closes

pub node-ends : (ms : List Mark) → is_some (one_less (ended ms)) ≡ true → EndsIn ms zero
node-ends ms e =
    let s = some-of (one_less (ended ms)) e in
    let zeros : suc s.0 ≡ suc (zero + s.0) = omega arith in
    ends-in ms zero s.0 (less-some (ended ms) s.0 s.1 ∙ ap (λ x. Some x) zeros)

pub begins-end : (k : DemangleNodeType) (ms : List Mark) → all_end (mark.Begins k ∷ ms) ≡ true
    → is_some (one_less (ended ms)) ≡ true
unfolding ended
begins-end k ms e = e

less-more : (o : Option ℕ) → is_some (one_less o) ≡ true → is_some o ≡ true
less-more None e = e
less-more (Some n) e = refl

more-more : (o : Option ℕ) → is_some (one_more o) ≡ true → is_some o ≡ true
more-more None e = e
more-more (Some n) e = refl

pub end-behind : (w ms : List Mark) → all_end (w ++ ms) ≡ true → all_end ms ≡ true
unfolding ended
end-behind [] ms e = e
end-behind (mark.Piece i ∷ w) ms e = end-behind w ms e
end-behind (mark.Begins i ∷ w) ms e = end-behind w ms (less-more (ended (w ++ ms)) e)
end-behind (mark.Ends ∷ w) ms e = end-behind w ms (more-more (ended (w ++ ms)) e)

-- ---- the text
first-so : (a b : Bool) → (a && b) ≡ true → a ≡ true
first-so true b e = refl
first-so false b e = e

second-so : (a b : Bool) → (a && b) ≡ true → b ≡ true
second-so true b e = e
second-so false b e = absurd cc

pub chars-behind : (empty : Bool) (t : List ℕ) (w ms : List Mark) → begin_chars empty t (w ++ ms) ≡ true
    → begin_chars empty (drop (sizes w) t) ms ≡ true
unfolding begin_chars sizes
chars-behind d t [] ms e = e
chars-behind d t (mark.Piece n ∷ w) ms e =
    let further : drop (sizes w) (drop n t) ≡ drop (n + sizes w) t = grind (arith, common_steps) in
    ap (λ l. begin_chars d l ms) (sym further)
    ∙ chars-behind d (drop n t) w ms (second-so (begins_char d (take n t)) (begin_chars d (drop n t) (w ++ ms)) e)
chars-behind d t (mark.Begins k ∷ w) ms e = chars-behind d t w ms e
chars-behind d t (mark.Ends ∷ w) ms e = chars-behind d t w ms e

pub sizes-behind : (t : List ℕ) (w ms : List Mark) → sizes (w ++ ms) ≡ length t → sizes ms ≡ length (drop (sizes w) t)
sizes-behind t w ms e =
    let both : sizes w + sizes ms ≡ length t = sym (sizes-append w ms) ∙ e in
    let rest : length (drop (sizes w) t) ≡ length t - sizes w = grind (arith, common_steps) in
    rw rest (omega arith)

bytes-text : (bs : List ℕ) (es : List Event) → text_of (map byte bs ++ es) ≡ bs ++ text_of es
bytes-text [] es = refl
bytes-text (b ∷ bs) es = ap (λ l. b ∷ l) (bytes-text bs es)

pub calls-text : (t : List ℕ) (w : List Mark) → text_of (events_of (calls t w)) ≡ take (sizes w) t
unfolding calls sizes
calls-text t [] = refl
calls-text t (mark.Piece n ∷ w) =
    bytes-text (take n t) (events_of (calls (drop n t) w)) ∙ ap (λ l. take n t ++ l) (calls-text (drop n t) w)
    ∙ sym (take-add n (sizes w) t)
calls-text t (mark.Begins k ∷ w) = calls-text t w
calls-text t (mark.Ends ∷ w) = calls-text t w

-- ---- the items at the front
pub here-none : (t : List ℕ) → items_of t [] ≡ none
unfolding calls levels
here-none t = refl

pub here-end : (t : List ℕ) (ms : List Mark) → items_of t (mark.Ends ∷ ms) ≡ none
unfolding calls levels
here-end t ms = refl

pub here-piece : (t : List ℕ) (n : ℕ) (ms : List Mark)
    → items_of t (mark.Piece n ∷ ms) ≡ bytes_before (take n t) (items_of (drop n t) ms)
unfolding calls
here-piece t n ms = text-front (take n t) (events_of (calls (drop n t) ms))

calls-node : (t : List ℕ) (w ms : List Mark)
    → events_of (calls t (w ++ mark.Ends ∷ ms)) ≡ events_of (calls t w) ++ closed ∷ events_of (calls (drop (sizes w)
    t) ms)
unfolding calls
calls-node t w ms =
    ap events_of (calls-append t w (mark.Ends ∷ ms))
    ∙ events-append (calls t w) (ends ∷ calls (drop (sizes w) t) ms)

pub here-within : (t : List ℕ) (w ms : List Mark) → open_marks w (Some zero) ≡ Some zero
    → items_of t (w ++ mark.Ends ∷ ms) ≡ items_of t w
here-within t w ms c =
    ap items (calls-node t w ms)
    ∙ within-front (events_of (calls t w)) (events_of (calls (drop (sizes w) t) ms)) (closed-marks t w c zero)

pub here-node : (t : List ℕ) (k : DemangleNodeType) (w ms : List Mark) → open_marks w (Some zero) ≡ Some zero
    → items_of t (mark.Begins k ∷ (w ++ mark.Ends ∷ ms))
    ≡ node (kind_of k) (items_of t (w ++ mark.Ends ∷ ms)) (items_of (drop (sizes w) t) ms)
unfolding calls
here-node t k w ms c =
    let es = events_of (calls t w) in
    let more = events_of (calls (drop (sizes w) t) ms) in
    ap (λ l. items (opened (kind_of k) ∷ l)) (calls-node t w ms)
    ∙ node-front (kind_of k) es more (closed-marks t w c zero)
    ∙ ap (λ i. node (kind_of k) i (items more)) (sym (here-within t w ms c))

pub here-text : (t : List ℕ) (w ms : List Mark) → open_marks w (Some zero) ≡ Some zero
    → text_in (items_of t (w ++ mark.Ends ∷ ms)) ≡ take (sizes w) t
here-text t w ms c =
    ap text_in (here-within t w ms c) ∙ keeps (events_of (calls t w)) (closed-marks t w c) ∙ calls-text t w

bytes-both : (a b : List ℕ) (i : Items) → bytes_before (a ++ b) i ≡ bytes_before a (bytes_before b i)
bytes-both [] b i = refl
bytes-both (x ∷ xs) b i = ap (byte_before x) (bytes-both xs b i)

pub text-run : (t : List ℕ) (w ms : List Mark) → are_pieces w ≡ true
    → items_of t (w ++ ms) ≡ bytes_before (take (sizes w) t) (items_of (drop (sizes w) t) ms)
unfolding are_pieces calls sizes
text-run t [] ms e = refl
text-run t (mark.Piece n ∷ w) ms e =
    let rest = drop n t in
    let further : drop (sizes w) rest ≡ drop (n + sizes w) t = grind (arith, common_steps) in
    text-front (take n t) (events_of (calls rest (w ++ ms)))
    ∙ ap (bytes_before (take n t)) (text-run rest w ms e)
    ∙ sym (bytes-both (take n t) (take (sizes w) rest) (items_of (drop (sizes w) rest) ms))
    ∙ ap (λ l. bytes_before l (items_of (drop (sizes w) rest) ms)) (sym (take-add n (sizes w) t))
    ∙ ap (λ l. bytes_before (take (n + sizes w) t) (items_of l ms)) further
text-run t (mark.Begins k ∷ w) ms e = absurd cc
text-run t (mark.Ends ∷ w) ms e = absurd cc

pub pieces-close : (w : List Mark) → are_pieces w ≡ true → open_marks w (Some zero) ≡ Some zero
unfolding are_pieces open_marks
pieces-close [] e = refl
pieces-close (mark.Piece k ∷ w) e = pieces-close w e
pieces-close (mark.Begins k ∷ w) e = absurd cc
pieces-close (mark.Ends ∷ w) e = absurd cc

-- where a node begins
pub here-begins : (t : List ℕ) (k : DemangleNodeType) (ms : List Mark) → all_end (mark.Begins k ∷ ms) ≡ true
    → (m : Items) × (items_of t (mark.Begins k ∷ ms) ≡ node (kind_of k) (items_of t ms) m)
here-begins t k ms e =
    let n = node-ends ms (begins-end k ms e) in (
      items_of (drop (sizes n.within) t) n.behind,
      ap (λ l. items_of t (mark.Begins k ∷ l)) n.is ∙ here-node t k n.within n.behind n.closes
          ∙ ap (λ l. node (kind_of k) (items_of t l) (items_of (drop (sizes n.within) t) n.behind)) (sym n.is),
    )

pub no-text-front : (t : List ℕ) (ms : List Mark) → all_end ms ≡ true → begins_with_piece ms ≡ false
    → not_text (items_of t ms) ≡ true
no-text-front t [] e f = ap not_text (here-none t)
no-text-front t (mark.Piece n ∷ ms) e f = absurd cc
no-text-front t (mark.Begins k ∷ ms) e f = ap not_text (here-begins t k ms e).1
no-text-front t (mark.Ends ∷ ms) e f = ap not_text (here-end t ms)

one-byte : (b : ℕ) (i : Items) → not_text i ≡ true → byte_before b i ≡ text (b ∷ []) i
one-byte b none e = refl
one-byte b (text bs m) e = absurd cc
one-byte b (node k w m) e = refl

pub bytes-text-before : (bs : List ℕ) (i : Items) → not_text i ≡ true → bytes_before bs i ≡ with_text bs i
bytes-text-before [] i e = refl
bytes-text-before (b ∷ []) i e = one-byte b i e
bytes-text-before (b ∷ (c ∷ cs)) i e = ap (byte_before b) (bytes-text-before (c ∷ cs) i e)

pieces-push : (w : List Mark) (k : ℕ) → are_pieces w ≡ true → are_pieces (w ++ mark.Piece k ∷ []) ≡ true
unfolding are_pieces
pieces-push [] k e = refl
pieces-push (mark.Piece n ∷ w) k e = pieces-push w k e
pieces-push (mark.Begins j ∷ w) k e = absurd cc
pieces-push (mark.Ends ∷ w) k e = absurd cc

pub pieces-more : (ms : List Mark) (i k : ℕ) (d : Mark) → i < length ms → get_or ms i d ≡ mark.Piece k
    → are_pieces (take i ms) ≡ true → are_pieces (take (i + 1) ms) ≡ true
pieces-more ms i k d within e h =
    ap are_pieces (take-more ms i (mark.Piece k) d within e) ∙ pieces-push (take i ms) k h
