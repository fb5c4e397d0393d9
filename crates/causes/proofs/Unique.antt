-- No second answer meets the contracts of this crate. Assumes nothing.
use mathlib.Core.Path.{sym, ◌∙◌}
use Rattle.answer.specs.Answer.{OneAnswer}
use Rattle.causes.proofs.ssf_of.Kinds as ssf_of_kinds
use Rattle.causes.proofs.ssf_of.Reads as ssf_of_reads
use Rattle.causes.proofs.tim_acts.Kinds as tim_acts_kinds
use Rattle.causes.proofs.tim_acts.Reads as tim_acts_reads
use Rattle.causes.proofs.path_down.Kinds as path_down_kinds
use Rattle.causes.proofs.path_down.Reads as path_down_reads
use Rattle.causes.proofs.head_of.Kinds as head_of_kinds
use Rattle.causes.proofs.head_of.Reads as head_of_reads
use Rattle.causes.proofs.causes_by.Kinds as causes_by_kinds
use Rattle.causes.proofs.causes_by.Reads as causes_by_reads
use Rattle.causes.proofs.path_ssf.Kinds as path_ssf_kinds
use Rattle.causes.proofs.path_ssf.Reads as path_ssf_reads
use Rattle.causes.proofs.report_with.Kinds as report_with_kinds
use Rattle.causes.proofs.report_with.Reads as report_with_reads
use Rattle.causes.proofs.report_of.Kinds as report_of_kinds
use Rattle.causes.proofs.report_of.Reads as report_of_reads
use Rattle.causes.proofs.no_report.Kinds as no_report_kinds
use Rattle.causes.proofs.no_report.Reads as no_report_reads
use Rattle.causes.proofs.nothing.Kinds as nothing_kinds
use Rattle.causes.proofs.nothing.Reads as nothing_reads

pub ssf_of_one : OneAnswer 0 ssf_of_kinds.ps ssf_of_kinds.r ssf_of_reads.Post
ssf_of_one κs a x y s t p q = p ∙ sym q

pub tim_acts_one : OneAnswer 0 tim_acts_kinds.ps tim_acts_kinds.r tim_acts_reads.Post
tim_acts_one κs a x y s t p q = p ∙ sym q

pub path_down_one : OneAnswer 0 path_down_kinds.ps path_down_kinds.r path_down_reads.Post
path_down_one κs a x y s t p q = p ∙ sym q

pub head_of_one : OneAnswer 0 head_of_kinds.ps head_of_kinds.r head_of_reads.Post
head_of_one κs a x y s t p q = p ∙ sym q

pub causes_by_one : OneAnswer 0 causes_by_kinds.ps causes_by_kinds.r causes_by_reads.Post
causes_by_one κs a x y s t p q = p ∙ sym q

pub path_ssf_one : OneAnswer 0 path_ssf_kinds.ps path_ssf_kinds.r path_ssf_reads.Post
path_ssf_one κs a x y s t p q = p ∙ sym q

pub report_with_one : OneAnswer 0 report_with_kinds.ps report_with_kinds.r report_with_reads.Post
report_with_one κs a x y s t p q = p ∙ sym q

pub report_of_one : OneAnswer 0 report_of_kinds.ps report_of_kinds.r report_of_reads.Post
report_of_one κs a x y s t p q = p ∙ sym q

pub no_report_one : OneAnswer 0 no_report_kinds.ps no_report_kinds.r no_report_reads.Post
no_report_one κs a x y s t p q = p ∙ sym q

pub nothing_one : OneAnswer 0 nothing_kinds.ps nothing_kinds.r nothing_reads.Post
nothing_one κs a x y s t p q = p ∙ sym q
