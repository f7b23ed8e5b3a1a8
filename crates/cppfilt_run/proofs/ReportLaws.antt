-- Laws on a whole run: what holds of it by how its input part stopped, and by what was reported then.
use Rattle.std.proofs.Common.{◌≡◌, ◌⊎◌, inl, inr, ℕ, ◌+◌, ◌-◌, ◌^◌, ◌<◌, ◌≤◌, List, length, length-append, append-nil}
use Rattle.std.proofs.Common.{take, arith, refl}
use Rattle.std.specs.Prelude.{Option, Some, None, IfSome}
use Rattle.std.specs.Io.KnownBytes.{Appends, IsAtEnd}
use Rattle.cppfilt_ends.specs.Causes.{Rose, NoFault}
use Rattle.cppfilt_lines.specs.Due.{due}
use Rattle.cppfilt_lines.specs.Lines.{complete}
use Rattle.cppfilt_lines.specs.declared.options.FilterOptions.{FilterOptions}
use Rattle.cppfilt_run.specs.Outcome.{Amount, Faults, OfTaken, Stopped}
use Rattle.cppfilt_run.specs.declared.status.Status.{Status}
use Rattle.cppfilt_run.specs.declared.status.Status.TheVariants.{Done, Help, Usage, ReadFault, WriteFault}
use Rattle.cppfilt_run.specs.declared.status.Status.TheVariants.{InputTooLong}
use Rattle.cppfilt_run.specs.declared.status.Status.TheVariants.{OutOfMemory}

abbrev Bytes : Type 0
Bytes = Option (List ℕ)

-- what was counted: the faults of both ends, and the bytes that were taken
pub record Counts (status : Status) (limit read0 read1 write0 write1 taken0 taken1 : ℕ) (left0 left1 : Bytes)
    : Type 0 where
  pub faults : Faults status read0 read1 write0 write1
  pub amount : Amount status limit taken0 taken1 left0 left1

-- ---- what was written
pub run-done : (s res : Status) {o : FilterOptions} {limit r0 r w0 w t0 t g : ℕ} {left0 left out0 out : Bytes}
    → Stopped o s limit r0 r w0 w t0 t g left0 left out0 out → (res ≡ s) ⊎ (res ≡ OutOfMemory) → res ≡ Done
    → IsAtEnd left × IfSome left0 (λ input. Appends out0 out (due o input))
run-done Done res st k e = st.written
run-done _ res st (inl k) e = absurd cc
run-done _ res st (inr k) e = absurd cc

pub run-read-written : (s res : Status) {o : FilterOptions} {limit r0 r w0 w t0 t g : ℕ} {left0 left out0 out : Bytes}
    → Stopped o s limit r0 r w0 w t0 t g left0 left out0 out → (res ≡ s) ⊎ (res ≡ OutOfMemory) → res ≡ ReadFault
    → OfTaken left0 left (λ taken. Appends out0 out (due o (complete taken)))
run-read-written ReadFault res st k e = st.written
run-read-written _ res st (inl k) e = absurd cc
run-read-written _ res st (inr k) e = absurd cc

pub run-long-written : (s res : Status) {o : FilterOptions} {limit r0 r w0 w t0 t g : ℕ} {left0 left out0 out : Bytes}
    → Stopped o s limit r0 r w0 w t0 t g left0 left out0 out → (res ≡ s) ⊎ (res ≡ OutOfMemory) → res ≡ InputTooLong
    → IfSome left0 (λ input. Appends out0 out (due o (complete (take limit input))))
run-long-written InputTooLong res st k e = st.written
run-long-written _ res st (inl k) e = absurd cc
run-long-written _ res st (inr k) e = absurd cc

-- ---- how much was taken
of-map : (left0 left : Bytes) (P Q : List ℕ → Type 0) → ((bytes : List ℕ) → P bytes → Q bytes) → OfTaken left0 left P
    → OfTaken left0 left Q
of-map None left P Q f p = tt
of-map (Some x) None P Q f p = absurd p
of-map (Some x) (Some y) P Q f p = (p.0, p.1, f p.0 p.2)

long-input : (left0 left : Bytes) (n : ℕ) → OfTaken left0 left (λ taken. length taken ≡ n)
    → IfSome left0 (λ input. n ≤ length input)
long-input None left n p = tt
long-input (Some x) None n p = absurd p
long-input (Some x) (Some y) n p = let size = p.2 in rw (p.1, length-append) (omega arith)

short-input : (left0 left : Bytes) (n : ℕ) → IsAtEnd left → OfTaken left0 left (λ taken. length taken ≤ n)
    → IfSome left0 (λ input. length input ≤ n)
short-input None left n end p = tt
short-input (Some x) None n end p = absurd p
short-input (Some x) (Some y) n end p = let size = p.2 in rw (p.1, end, append-nil) size

always : (left0 : Bytes) (P : Type 0) (Q : List ℕ → Type 0) → P → IfSome left0 (λ input. Q input → P)
always None P Q p = tt
always (Some x) P Q p = λ q. p

not-short : (left0 : Bytes) (P : Type 0) (limit : ℕ) → IfSome left0 (λ input. limit + 1 ≤ length input)
    → IfSome left0 (λ input. length input ≤ limit → P)
not-short None P limit long = tt
not-short (Some x) P limit long = λ short. absurd (omega arith)

not-long : (left0 : Bytes) (P : Type 0) (limit : ℕ) → IfSome left0 (λ input. length input ≤ limit)
    → IfSome left0 (λ input. limit < length input → P)
not-long None P limit short = tt
not-long (Some x) P limit short = λ long. absurd (omega arith)

pub fault-free : (r0 r : ℕ) → NoFault r0 r → Rose r0 r → ⊥
fault-free r0 r none rose = let e = none.0 in let l = none.1 in omega (arith, rose)

pub run-complete : (s res : Status) {limit r0 r w0 w t0 t : ℕ} {left0 left : Bytes}
    → Counts s limit r0 r w0 w t0 t left0 left → (res ≡ s) ⊎ (res ≡ OutOfMemory) → NoFault r0 r
    → NoFault w0 w → IfSome left0 (λ input. length input ≤ limit → (res ≡ Done) ⊎ (res ≡ OutOfMemory))
run-complete Done res {limit} {r0} {r} {w0} {w} {t0} {t} {left0} {left} st k nr nw =
    always left0 _ (λ input. length input ≤ limit) k
run-complete InputTooLong res {limit} {r0} {r} {w0} {w} {t0} {t} {left0} {left} st k nr nw =
    not-short left0 _ limit (long-input left0 left (limit + 1) st.amount.2)
run-complete OutOfMemory res {limit} {r0} {r} {w0} {w} {t0} {t} {left0} {left} st (inl k) nr nw =
    always left0 _ (λ input. length input ≤ limit) (inr k)
run-complete OutOfMemory res {limit} {r0} {r} {w0} {w} {t0} {t} {left0} {left} st (inr k) nr nw =
    always left0 _ (λ input. length input ≤ limit) (inr k)
run-complete Usage res {limit} {r0} {r} {w0} {w} {t0} {t} {left0} {left} st k nr nw = absurd st.faults
run-complete Help res {limit} {r0} {r} {w0} {w} {t0} {t} {left0} {left} st k nr nw = absurd st.faults
run-complete ReadFault res {limit} {r0} {r} {w0} {w} {t0} {t} {left0} {left} st k nr nw =
    absurd (fault-free r0 r nr st.faults.0.1)
run-complete WriteFault res {limit} {r0} {r} {w0} {w} {t0} {t} {left0} {left} st k nr nw =
    absurd (fault-free w0 w nw st.faults.1.1)

pub run-refused : (s res : Status) {limit r0 r w0 w t0 t : ℕ} {left0 left : Bytes}
    → Counts s limit r0 r w0 w t0 t left0 left → (s ≡ Done → IsAtEnd left)
    → (res ≡ s) ⊎ (res ≡ OutOfMemory) → NoFault r0 r → NoFault w0 w
    → IfSome left0 (λ input. limit < length input → (res ≡ InputTooLong) ⊎ (res ≡ OutOfMemory))
run-refused InputTooLong res {limit} {r0} {r} {w0} {w} {t0} {t} {left0} {left} st end k nr nw =
    always left0 _ (λ input. limit < length input) k
run-refused Done res {limit} {r0} {r} {w0} {w} {t0} {t} {left0} {left} st end k nr nw =
    not-long left0 _ limit (short-input left0 left limit (end refl) st.amount.1)
run-refused OutOfMemory res {limit} {r0} {r} {w0} {w} {t0} {t} {left0} {left} st end (inl k) nr nw =
    always left0 _ (λ input. limit < length input) (inr k)
run-refused OutOfMemory res {limit} {r0} {r} {w0} {w} {t0} {t} {left0} {left} st end (inr k) nr nw =
    always left0 _ (λ input. limit < length input) (inr k)
run-refused Usage res {limit} {r0} {r} {w0} {w} {t0} {t} {left0} {left} st end k nr nw = absurd st.faults
run-refused Help res {limit} {r0} {r} {w0} {w} {t0} {t} {left0} {left} st end k nr nw = absurd st.faults
run-refused ReadFault res {limit} {r0} {r} {w0} {w} {t0} {t} {left0} {left} st end k nr nw =
    absurd (fault-free r0 r nr st.faults.0.1)
run-refused WriteFault res {limit} {r0} {r} {w0} {w} {t0} {t} {left0} {left} st end k nr nw =
    absurd (fault-free w0 w nw st.faults.1.1)

pub run-long : (s res : Status) {limit r0 r w0 w t0 t : ℕ} {left0 left : Bytes}
    → Counts s limit r0 r w0 w t0 t left0 left → (res ≡ s) ⊎ (res ≡ OutOfMemory) → res ≡ InputTooLong
    → (t0 + limit < t) ⊎ (2 ^ 64 - 1 ≤ t)
run-long InputTooLong res st k e = st.amount.0
run-long _ res st (inl k) e = absurd cc
run-long _ res st (inr k) e = absurd cc

pub run-long-bytes : (s res : Status) {limit r0 r w0 w t0 t : ℕ} {left0 left : Bytes}
    → Counts s limit r0 r w0 w t0 t left0 left → (res ≡ s) ⊎ (res ≡ OutOfMemory) → res ≡ InputTooLong
    → OfTaken left0 left (λ taken. length taken ≡ limit + 1)
run-long-bytes InputTooLong res st k e = st.amount.2
run-long-bytes _ res st (inl k) e = absurd cc
run-long-bytes _ res st (inr k) e = absurd cc

pub run-long-told : (s res : Status) {limit r0 r w0 w t0 t : ℕ} {left0 left : Bytes}
    → Counts s limit r0 r w0 w t0 t left0 left → (res ≡ s) ⊎ (res ≡ OutOfMemory) → t0 + limit < t
    → (res ≡ InputTooLong) ⊎ (res ≡ OutOfMemory)
run-long-told InputTooLong res st k rose = k
run-long-told _ res st k rose = let e = st.amount.0 in absurd (omega arith)

pub run-long-bytes-told : (s res : Status) {limit r0 r w0 w t0 t : ℕ} {left0 left : Bytes}
    → Counts s limit r0 r w0 w t0 t left0 left → (res ≡ s) ⊎ (res ≡ OutOfMemory)
    → OfTaken left0 left (λ taken. limit < length taken → (res ≡ InputTooLong) ⊎ (res ≡ OutOfMemory))
run-long-bytes-told InputTooLong res {limit} {r0} {r} {w0} {w} {t0} {t} {left0} {left} st k =
    of-map left0 left _ _ (λ bytes size long. k) st.amount.2
run-long-bytes-told _ res {limit} {r0} {r} {w0} {w} {t0} {t} {left0} {left} st k =
    of-map left0 left _ _ (λ bytes size long. absurd (omega arith)) st.amount.1

pub run-at_most : (s : Status) {limit r0 r w0 w t0 t : ℕ} {left0 left : Bytes}
    → Counts s limit r0 r w0 w t0 t left0 left → t ≤ t0 + limit + 1
run-at_most InputTooLong st = st.amount.1
run-at_most _ st = let e = st.amount.0 in omega arith

-- ---- faults
pub run-usage : (s res : Status) {limit r0 r w0 w t0 t : ℕ} {left0 left : Bytes}
    → Counts s limit r0 r w0 w t0 t left0 left → (res ≡ s) ⊎ (res ≡ OutOfMemory) → res ≡ Usage → ⊥
run-usage Usage res st k e = st.faults
run-usage Help res st k e = st.faults
run-usage _ res st (inl k) e = cc
run-usage _ res st (inr k) e = cc

pub run-help : (s res : Status) {limit r0 r w0 w t0 t : ℕ} {left0 left : Bytes}
    → Counts s limit r0 r w0 w t0 t left0 left → (res ≡ s) ⊎ (res ≡ OutOfMemory) → res ≡ Help → ⊥
run-help Help res st k e = st.faults
run-help _ res st (inl k) e = cc
run-help _ res st (inr k) e = cc

pub run-read : (s res : Status) {limit r0 r w0 w t0 t : ℕ} {left0 left : Bytes}
    → Counts s limit r0 r w0 w t0 t left0 left → (res ≡ s) ⊎ (res ≡ OutOfMemory) → res ≡ ReadFault
    → Rose r0 r
run-read ReadFault res st k e = st.faults.0.1
run-read _ res st (inl k) e = absurd cc
run-read _ res st (inr k) e = absurd cc

pub run-read-told : (s res : Status) {limit r0 r w0 w t0 t : ℕ} {left0 left : Bytes}
    → Counts s limit r0 r w0 w t0 t left0 left → (res ≡ s) ⊎ (res ≡ OutOfMemory) → r0 < r
    → (res ≡ ReadFault) ⊎ (res ≡ OutOfMemory)
run-read-told ReadFault res st k rose = k
run-read-told Usage res st k rose = absurd st.faults
run-read-told Help res st k rose = absurd st.faults
run-read-told _ res st k rose = let e = st.faults.0 in absurd (omega arith)

pub run-write : (s res : Status) {limit r0 r w0 w t0 t : ℕ} {left0 left : Bytes}
    → Counts s limit r0 r w0 w t0 t left0 left → (res ≡ s) ⊎ (res ≡ OutOfMemory) → res ≡ WriteFault
    → Rose w0 w
run-write WriteFault res st k e = st.faults.1.1
run-write _ res st (inl k) e = absurd cc
run-write _ res st (inr k) e = absurd cc

pub run-write-told : (s res : Status) {limit r0 r w0 w t0 t : ℕ} {left0 left : Bytes}
    → Counts s limit r0 r w0 w t0 t left0 left → (res ≡ s) ⊎ (res ≡ OutOfMemory) → w0 < w
    → (res ≡ WriteFault) ⊎ (res ≡ OutOfMemory)
run-write-told WriteFault res st k rose = k
run-write-told Usage res st k rose = absurd st.faults
run-write-told Help res st k rose = absurd st.faults
run-write-told _ res st k rose = let e = st.faults.1 in absurd (omega arith)
