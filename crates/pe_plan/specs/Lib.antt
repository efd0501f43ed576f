pub mod Plans
pub mod PlanSteps
pub mod ShortPlans
