mod Cited
pub mod RecordLaw
pub mod Chains
pub mod Rings
pub mod Marks
pub mod Endings
pub mod Roots
pub mod OnePlan
pub mod Walks
pub mod ShortPlans
pub mod PlanRooms
