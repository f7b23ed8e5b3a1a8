-- From what a row's reader answers at the front of a cleared arena to what a name's readers answer.
use Rattle.std.proofs.Common.{◌≡◌, refl, ap, ◌∙◌, sym, subst, ℕ, suc, zero, ◌≤◌, ◌<◌, ◌-◌, false, List, [], ◌∷◌}
use Rattle.std.proofs.Common.{Ok, Err, length, drop, map, arith, inl, inr}
use Rattle.demangle_text.specs.Kind.{kind, Unread, Text}
use Rattle.demangle_text.specs.declared.error.Error.{Error}
use Rattle.demangle_text.specs.declared.error.Error.TheVariants.{OutOfMemory, UnexpectedText}
use Rattle.demangle_core.specs.Core.{Core}
use Rattle.demangle_core.specs.Table.{empty_table}
use Rattle.demangle_grammar.specs.Rule.{Row}
use Rattle.demangle_grammar.specs.Code.{Reply, Refused, Here, here, cread}
use Rattle.demangle_cells.specs.Reads.{Answer, Answers, ReadsRow}
use Rattle.demangle_cells.specs.View.{View, table, entry}
use Rattle.demangle_cells.specs.declared.text.Text as texts
use Rattle.demangle_cells.specs.declared.text.Part as parts
use Rattle.demangle_read.specs.Reading.{reading, whole, whole_at}
use Rattle.demangle_read.specs.Found.{IsFront, IsFound, FindsFront, FindsWhole}

-- ---- the name at the front
of_memory : (F : ℕ → Core) (v : View) (bytes : List ℕ) (reply : Reply) (e : Error) → e ≡ OutOfMemory
    → IsFront F v bytes reply (Err e)
of_memory F v bytes reply e m = subst (λ x. IsFront F v bytes reply (Err x)) (sym m) tt

refused : (F : ℕ → Core) (v : View) (bytes : List ℕ) (reply : Reply) (e : Error) → reply ≡ Refused (kind e)
    → IsFront F v bytes reply (Err e)
refused F v bytes reply OutOfMemory d = tt
refused F v bytes reply e d = d

answered : (F : ℕ → Core) (t : texts.Text) (r : Answer) (old new : View) (reply : Reply)
    → Answers F t r old new reply → IsFront F new t.bytes.now reply r
answered F t (Ok x) old new reply d = d
answered F t (Err e) old new reply (inl m) = of_memory F new t.bytes.now reply e m
answered F t (Err e) old new reply (inr d) = refused F new t.bytes.now reply e d.0

-- with no components yet
at_first : (limit levels : ℕ) (bytes : List ℕ) (F : ℕ → Core) (old : View) → old.entries ≡ [] → levels ≡ limit - 1
    → cread levels Row.mangled_name false (here (record { index = 0; left = bytes }) (table F old)) []
    ≡ reading limit bytes
unfolding table empty_table
at_first limit levels bytes F old n l =
    ap (λ k. cread k Row.mangled_name false (here (record { index = 0; left = bytes }) (table F old)) []) l
    ∙ ap (λ es. cread (limit - 1) Row.mangled_name false (here (record { index = 0; left = bytes }) (map (entry F) es))
    []) n

pub front_read : (limit levels : ℕ) (bytes : List ℕ) (t : texts.Text) (r : Answer) (old new : View)
    → t.bytes.now ≡ bytes → old.entries ≡ [] → levels ≡ limit - 1
    → ReadsRow Row.mangled_name levels false t 0 r old new → FindsFront new bytes (reading limit bytes) r
front_read limit levels bytes t r old new b n l reads F h =
    subst (λ bs. IsFront F new bs (reading limit bs) r) b
    (subst (λ reply. IsFront F new t.bytes.now reply r) (at_first limit levels t.bytes.now F old n l)
    (answered F t r old new _ (reads F h)))

pub front_unread : (v : View) (bytes : List ℕ) (reply : Reply) → FindsFront v bytes reply (Err OutOfMemory)
front_unread v bytes reply F h = tt

-- ---- a whole name
none_left : (n : ℕ) (bytes : List ℕ) → length bytes ≤ n → drop n bytes ≡ []
none_left zero [] l = refl
none_left zero (b ∷ bs) l = absurd (omega arith)
none_left (suc n) [] l = refl
none_left (suc n) (b ∷ bs) l = none_left n bs (omega arith)

some_left : (n : ℕ) (bytes : List ℕ) (x : Core) (h : Here) → n < length bytes
    → whole_at (drop n bytes) x h ≡ Refused (Unread Text)
some_left n [] x h l = absurd (omega arith)
some_left zero (b ∷ bs) x h l = refl
some_left (suc n) (b ∷ bs) x h l = some_left n bs x h (omega arith)

pub whole_read : (v : View) (bytes : List ℕ) (reply : Reply) (x : parts.Part) → FindsFront v bytes reply (Ok x)
    → length bytes ≤ x.end → FindsWhole v (whole reply) (Ok x.id)
whole_read v bytes reply x d l F h = (
  x.end,
  ap whole (d F h)
      ∙ ap (λ bs. whole_at bs (F x.id) (here (record { index = x.end; left = bs }) (table F v)))
      (none_left x.end bytes l),
)

pub whole_more : (v : View) (bytes : List ℕ) (reply : Reply) (x : parts.Part) → FindsFront v bytes reply (Ok x)
    → x.end < length bytes → FindsWhole v (whole reply) (Err UnexpectedText)
whole_more v bytes reply x d l F h = ap whole (d F h) ∙ some_left x.end bytes (F x.id) _ l

not_whole : (F : ℕ → Core) (v : View) (bytes : List ℕ) (reply : Reply) (e : Error) → IsFront F v bytes reply (Err e)
    → IsFound F v (whole reply) (Err e)
not_whole F v bytes reply OutOfMemory d = tt
not_whole F v bytes reply e d = ap whole d

pub whole_unread : (v : View) (bytes : List ℕ) (reply : Reply) (e : Error) → FindsFront v bytes reply (Err e)
    → FindsWhole v (whole reply) (Err e)
whole_unread v bytes reply e d F h = not_whole F v bytes reply e (d F h)

pub ruleset fronts = (front_read, front_unread)

pub ruleset wholes = (whole_read, whole_more, whole_unread)
